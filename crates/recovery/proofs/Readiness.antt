-- What is known once recovery without a table accepts. Assumes nothing.
use Rattle.std.specs.Prelude.{◌≡◌, ℕ, List, Ok}
use mathlib.Core.Path.{sym, ap}
use Rattle.refusals.specs.declared.Verdict.{Verdict}
use Rattle.rules.specs.Order.{never_full}
use Rattle.rules.proofs.Verdicts.{is-accepted}
use Rattle.cells.specs.declared.Scratch.{Scratch}
use Rattle.recovery.specs.Judgement.{Judgement}
use Rattle.recovery.specs.Ready.{Ready}
use Rattle.recovery.specs.declared.Judged.{Judged}
use Rattle.recovery.proofs.Outcome.{sure}

module _ {magic floor : ℕ} {pages log : List ℕ} {c : Scratch} {j : Judged} (g : Judgement never_full magic floor pages log c (Ok j)) where
  pub ready : Ready log pages c.starts c.lists c.fronts c.space
  ready =
      let v = sym (ap (λ (v : Verdict). v.number) g.tells) in
      let a = g.accepted in
      let s = sure never_full magic floor pages log v in
      record {
        ordered = s.ordered;
        small = s.small;
        size = s.size;
        few = s.few;
        begin = a.begin;
        next = a.next;
        listed = a.listed;
        touched = s.touched;
        fitting = s.fitting;
        of_data = λ i t. ((is-accepted never_full magic floor pages log v).on_data i t).is_data;
      }
