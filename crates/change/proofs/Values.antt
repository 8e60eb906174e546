-- The images of the change at a place of the log stand in the log. Assumes nothing.
use Prim.Native.Nat.{ℕ, ◌+◌, ◌-◌, ◌≤◌}
use mathlib.Core.Path.{◌≡◌, refl, sym, ap, subst, ◌∙◌}
use mathlib.Core.Bool.{true}
use mathlib.Core.List.{List, []}
use native.Mathlib.Omega.{arith}
use Rattle.std.specs.Prelude.{Option, Some, None}
use Rattle.wal.specs.Kind.{kind_number, kind_of}
use Rattle.wal.specs.declared.Kind.{Kind}
use Rattle.wal.specs.declared.Kind.TheVariants.{Begin, Commit, Rollback, Insert, Delete, Checkpoint, Update}
use Rattle.wal.proofs.KindLaws.{kind-number, kind-of}
use Rattle.change.proofs.ByKind.{by_kind}
use lib.ListN.{length, take, drop, length-drop}
use lib.Dec.{eqb}
use borrow.Author.Tests.{eqb-true, ne_eqb}
use Rattle.endian.specs.Numbers.{part}
use Rattle.endian.proofs.Places.{drop-part}
use Rattle.page.specs.Layout.{longest_tuple}
use Rattle.wal.specs.Entry.{Entry, insert, delete, update, key_part, old_part, new_part, entry_of}
use Rattle.wal.specs.Prefix.{entry_in, said}
use Rattle.wal.specs.declared.EntryView.{EntryView}
use Rattle.wal.proofs.WalkLaws.{EntryAt}
use Rattle.wal.proofs.Prefix.{stands_at}
use Rattle.wal.proofs.Places.{old-length, new-length}
use Rattle.change.proofs.Shapes.{insert-shaped, delete-shaped, update-shaped}
use Rattle.rules.specs.Shape.{is_change, is_changing, is_image, is_keyed, is_shaped, same, stamped, before_of, after_of}
use Rattle.rules.proofs.Tests.{both_true}
use Rattle.rules.proofs.ImageLaws.{image}
use Rattle.change.specs.declared.Image.{Image}
use Rattle.change.specs.Places.{ChangeAt}
use Rattle.rules.specs.Row.{before_at, after_at}
use Rattle.change.specs.Tuples.{logged, deleted, InLog, LoggedAt}
use Rattle.change.proofs.Standing.{in-log, in-log-deleted}

-- a change is an Insert, a Delete or an Update
pub third : (e : Entry) → is_change e ≡ true → (e.kind ≡ insert → ⊥) → (e.kind ≡ delete → ⊥) → e.kind ≡ update
unfolding is_changing
third e h a b = eqb-true e.kind update (rw (ne_eqb e.kind insert a, ne_eqb e.kind delete b) at h)

-- a value that begins with a key has a tuple behind it
record Keyed (v : List ℕ) : Type 0 where
  long : 34 ≤ length v
  short : length v ≤ 16326

keyed : (k v : List ℕ) → is_keyed k v ≡ true → Keyed v
unfolding is_keyed
keyed k v h =
    let i = image (both_true (same (take 10 v) k) (is_image (drop 10 v)) h).1 in
    record { long = omega (arith, i.long, length-drop 10 v); short = omega (arith, i.short, length-drop 10 v) }

-- the entry v at a place, by its type
module _ {s : List ℕ} {at : ℕ} {v : EntryView} (k : EntryAt s at v) (shaped : is_shaped (entry_of s v) ≡ true) where
  record Inserted : Type 0 where
    key : v.key_len ≡ 10
    place : v.place + (35 + v.key_len + v.old_len) ≡ at + 45
    room : at + 45 + v.new_len ≤ length s
    short : v.new_len ≤ longest_tuple

  inserted : v.kind ≡ insert → Inserted
  inserted e =
      let a = both_true (eqb v.key_len 10) _ (sym (insert-shaped k e) ∙ shaped) in
      let b = both_true (eqb v.old_len 0) _ a.1 in
      let i = image b.1 in
      let x : v.key_len ≡ 10 = eqb-true _ _ a.0 in
      let y : v.old_len ≡ 0 = eqb-true _ _ b.0 in
      record { key = x; place = omega (arith, k.here); room = omega (arith, k.room, k.inner); short = omega (arith, i.short, new-length k) }

  record Deleted : Type 0 where
    place : v.place + (31 + v.key_len) ≡ at + 41
    room : at + 41 + v.old_len ≤ length s
    long : 24 ≤ v.old_len
    short : v.old_len ≤ longest_tuple

  removed : v.kind ≡ delete → Deleted
  removed e =
      let a = both_true (eqb v.key_len 10) _ (sym (delete-shaped k e) ∙ shaped) in
      let b = both_true (is_image (old_part s v)) _ a.1 in
      let i = image b.0 in
      let x : v.key_len ≡ 10 = eqb-true _ _ a.0 in
      record { place = omega (arith, k.here); room = omega (arith, k.room, k.inner); long = omega (arith, i.long, old-length k); short = omega (arith, i.short, old-length k) }

  record Updated : Type 0 where
    old-place : v.place + (31 + v.key_len) ≡ at + 41
    new-place : v.place + (35 + v.key_len + v.old_len) ≡ at + 45 + v.old_len
    room : at + 45 + v.old_len + v.new_len ≤ length s
    old-long : 34 ≤ v.old_len
    old-short : v.old_len ≤ 16326
    new-long : 34 ≤ v.new_len
    new-short : v.new_len ≤ 16326

  updated : v.kind ≡ update → Updated
  updated e =
      let a = both_true (eqb v.key_len 10) _ (sym (update-shaped k e) ∙ shaped) in
      let b = both_true (is_keyed (key_part s v) (old_part s v)) _ a.1 in
      let o = keyed (key_part s v) (old_part s v) b.0 in
      let n = keyed (key_part s v) (new_part s v) b.1 in
      let x : v.key_len ≡ 10 = eqb-true _ _ a.0 in
      record {
        old-place = omega (arith, k.here);
        new-place = omega (arith, k.here);
        room = omega (arith, k.room, k.inner);
        old-long = omega (arith, o.long, old-length k);
        old-short = omega (arith, o.short, old-length k);
        new-long = omega (arith, n.long, new-length k);
        new-short = omega (arith, n.short, new-length k);
      }

  -- the images by its type
  before-inserted : v.kind ≡ insert → before_of (entry_of s v) ≡ []
  unfolding before_of entry_of
  before-inserted e = rw e

  after-inserted : v.kind ≡ insert → part (at + 45) v.new_len s ≡ after_of (entry_of s v)
  unfolding after_of entry_of
  after-inserted e = rw (e, (inserted e).place)

  before-removed : v.kind ≡ delete → part (at + 41) v.old_len s ≡ before_of (entry_of s v)
  unfolding before_of entry_of
  before-removed e = rw (e, (removed e).place)

  after-removed : v.kind ≡ delete → stamped v.txn.0 (part (at + 41) v.old_len s) ≡ after_of (entry_of s v)
  unfolding after_of entry_of
  after-removed e = rw (e, (removed e).place)

  before-updated : v.kind ≡ update → part (at + 51) (v.old_len - 10) s ≡ before_of (entry_of s v)
  unfolding before_of entry_of
  before-updated e =
      let u = updated e in
      let z : at + 41 + 10 ≡ at + 51 = omega arith in
      rw (e, u.old-place) (sym (drop-part 10 (at + 41) v.old_len s (omega (arith, u.old-long)) ∙ ap (λ (a : ℕ). part a (v.old_len - 10) s) z))

  after-updated : v.kind ≡ update → part (at + 55 + v.old_len) (v.new_len - 10) s ≡ after_of (entry_of s v)
  unfolding after_of entry_of
  after-updated e =
      let u = updated e in
      let z : at + 45 + v.old_len + 10 ≡ at + 55 + v.old_len = omega arith in
      rw (e, u.new-place) (sym (drop-part 10 (at + 45 + v.old_len) v.new_len s (omega (arith, u.new-long)) ∙ ap (λ (a : ℕ). part a (v.new_len - 10) s) z))

  -- where they stand
  before-inserted-at : v.kind ≡ insert → at + 41 ≡ before_at v
  before-inserted-at e = rw e (omega (arith, (inserted e).key, k.here))

  after-inserted-at : v.kind ≡ insert → at + 45 ≡ after_at v
  after-inserted-at e = rw e (omega (arith, (inserted e).place))

  before-removed-at : v.kind ≡ delete → at + 41 ≡ before_at v
  before-removed-at e = rw e (omega (arith, (removed e).place))

  after-removed-at : v.kind ≡ delete → at + 41 ≡ after_at v
  after-removed-at e = rw e (omega (arith, (removed e).place))

  before-updated-at : v.kind ≡ update → at + 51 ≡ before_at v
  before-updated-at e = rw e (omega (arith, (updated e).old-place))

  after-updated-at : v.kind ≡ update → at + 55 + v.old_len ≡ after_at v
  after-updated-at e = rw e (omega (arith, (updated e).new-place))

-- as code finds them
logged-at : {m : Image} {p n a : ℕ} → m ≡ logged p n → p ≡ a → LoggedAt m a
logged-at e q = rw e (record { logged = refl; at = q })

module _ {s : List ℕ} {at : ℕ} (c : ChangeAt s at) {v : EntryView} (e : v ≡ entry_in s at) where
  there : EntryAt s at v
  there = subst (EntryAt s at) (sym e) (stands_at c.stands)

  fine : is_shaped (entry_of s v) ≡ true
  fine = rw e c.shaped

  to : {m : Image} (f : Entry → List ℕ) (g : EntryView → ℕ) → InLog s m (f (entry_of s v)) → LoggedAt m (g v) → InLog s m (f (said s at)) × LoggedAt m (g (entry_in s at))
  to {m} f g a b = (subst (λ (w : EntryView). InLog s m (f (entry_of s w))) e a, subst (λ (w : EntryView). LoggedAt m (g w)) e b)

  -- places that code adds up
  pub place-low : at + 43 ≤ length s
  place-low = omega (arith, there.room, there.low)

  pub before-insert : {m : Image} → v.kind ≡ insert → m ≡ logged (at + 41) 0 → InLog s m (before_of (said s at)) × LoggedAt m (before_at (entry_in s at))
  before-insert n em =
      to before_of before_at (in-log (at + 41) 0 (omega (arith, place-low)) (omega arith) em (sym (before-inserted there fine n))) (logged-at em (before-inserted-at there fine n))

  pub after-insert : {m : Image} → v.kind ≡ insert → m ≡ logged (at + 45) v.new_len → InLog s m (after_of (said s at)) × LoggedAt m (after_at (entry_in s at))
  after-insert n em =
      let i = inserted there fine n in
      to after_of after_at (in-log (at + 45) v.new_len i.room (omega (arith, i.short)) em (after-inserted there fine n)) (logged-at em (after-inserted-at there fine n))

  pub before-delete : {m : Image} → v.kind ≡ delete → m ≡ logged (at + 41) v.old_len → InLog s m (before_of (said s at)) × LoggedAt m (before_at (entry_in s at))
  before-delete n em =
      let i = removed there fine n in
      to before_of before_at (in-log (at + 41) v.old_len i.room (omega (arith, i.short)) em (before-removed there fine n)) (logged-at em (before-removed-at there fine n))

  pub after-delete : {m : Image} → v.kind ≡ delete → m ≡ deleted (at + 41) v.old_len v.txn → InLog s m (after_of (said s at)) × LoggedAt m (after_at (entry_in s at))
  after-delete n em =
      let i = removed there fine n in
      to after_of after_at (in-log-deleted (at + 41) v.old_len i.room (omega (arith, i.short)) v.txn i.long em (after-removed there fine n))
      (rw em (record { logged = refl; at = after-removed-at there fine n }))

  -- what is neither is an Update
  module _ (not-insert : v.kind ≡ insert → ⊥) (not-delete : v.kind ≡ delete → ⊥) where
    kind-is : v.kind ≡ update
    unfolding entry_of
    kind-is = third (entry_of s v) (rw e c.change) not-insert not-delete

    pub update-lengths : (10 ≤ v.old_len) × (10 ≤ v.new_len) × (at + 45 + v.old_len + v.new_len ≤ length s)
    update-lengths = let u = updated there fine kind-is in omega (arith, u.old-long, u.new-long, u.room)

    pub before-update : {m : Image} → m ≡ logged (at + 51) (v.old_len - 10) → InLog s m (before_of (said s at)) × LoggedAt m (before_at (entry_in s at))
    before-update em =
        let u = updated there fine kind-is in
        to before_of before_at (in-log (at + 51) (v.old_len - 10) (omega (arith, u.room, u.old-long)) (omega (arith, u.old-short)) em (before-updated there fine kind-is))
        (logged-at em (before-updated-at there fine kind-is))

    pub after-update : {m : Image} → m ≡ logged (at + 55 + v.old_len) (v.new_len - 10) → InLog s m (after_of (said s at)) × LoggedAt m (after_at (entry_in s at))
    after-update em =
        let u = updated there fine kind-is in
        to after_of after_at (in-log (at + 55 + v.old_len) (v.new_len - 10) (omega (arith, u.room, u.new-long)) (omega (arith, u.new-short)) em (after-updated there fine kind-is))
        (logged-at em (after-updated-at there fine kind-is))

  -- by the type of the entry, as code tells types apart: any but an Insert and a Delete is an Update
  abbrev by_type : {A : Type 0} → A → A → A → Option Kind → A
  by_type i d u = by_kind i d u u u

  not-of : (k : Option Kind) (j : Kind) → kind_of v.kind ≡ k → (k ≡ Some j → ⊥) → v.kind ≡ kind_number j → ⊥
  not-of k j e n q = n (sym e ∙ ap kind_of q ∙ kind-number j)

  before-by : {m : Image} (k : Option Kind) → kind_of v.kind ≡ k → m ≡ by_type (logged (at + 41) 0) (logged (at + 41) v.old_len) (logged (at + 51) (v.old_len - 10)) k
      → InLog s m (before_of (said s at)) × LoggedAt m (before_at (entry_in s at))
  before-by (Some Begin) f em = before-update (not-of _ Insert f (λ q. cc)) (not-of _ Delete f (λ q. cc)) em
  before-by (Some Commit) f em = before-update (not-of _ Insert f (λ q. cc)) (not-of _ Delete f (λ q. cc)) em
  before-by (Some Rollback) f em = before-update (not-of _ Insert f (λ q. cc)) (not-of _ Delete f (λ q. cc)) em
  before-by (Some Insert) f em = before-insert (kind-of _ f) em
  before-by (Some Delete) f em = before-delete (kind-of _ f) em
  before-by (Some Checkpoint) f em = before-update (not-of _ Insert f (λ q. cc)) (not-of _ Delete f (λ q. cc)) em
  before-by (Some Update) f em = before-update (not-of _ Insert f (λ q. cc)) (not-of _ Delete f (λ q. cc)) em
  before-by None f em = before-update (not-of _ Insert f (λ q. cc)) (not-of _ Delete f (λ q. cc)) em

  after-by : {m : Image} (k : Option Kind) → kind_of v.kind ≡ k → m ≡ by_type (logged (at + 45) v.new_len) (deleted (at + 41) v.old_len v.txn) (logged (at + 55 + v.old_len) (v.new_len - 10)) k
      → InLog s m (after_of (said s at)) × LoggedAt m (after_at (entry_in s at))
  after-by (Some Begin) f em = after-update (not-of _ Insert f (λ q. cc)) (not-of _ Delete f (λ q. cc)) em
  after-by (Some Commit) f em = after-update (not-of _ Insert f (λ q. cc)) (not-of _ Delete f (λ q. cc)) em
  after-by (Some Rollback) f em = after-update (not-of _ Insert f (λ q. cc)) (not-of _ Delete f (λ q. cc)) em
  after-by (Some Insert) f em = after-insert (kind-of _ f) em
  after-by (Some Delete) f em = after-delete (kind-of _ f) em
  after-by (Some Checkpoint) f em = after-update (not-of _ Insert f (λ q. cc)) (not-of _ Delete f (λ q. cc)) em
  after-by (Some Update) f em = after-update (not-of _ Insert f (λ q. cc)) (not-of _ Delete f (λ q. cc)) em
  after-by None f em = after-update (not-of _ Insert f (λ q. cc)) (not-of _ Delete f (λ q. cc)) em

  lengths-by : (k : Option Kind) → kind_of v.kind ≡ k → (10 ≤ by_type 10 10 v.old_len k) × (10 ≤ by_type 10 10 v.new_len k) × (at + by_type 0 0 (45 + v.old_len + v.new_len) k ≤ length s)
  lengths-by (Some Begin) f = let u = update-lengths (not-of _ Insert f (λ q. cc)) (not-of _ Delete f (λ q. cc)) in omega arith
  lengths-by (Some Commit) f = let u = update-lengths (not-of _ Insert f (λ q. cc)) (not-of _ Delete f (λ q. cc)) in omega arith
  lengths-by (Some Rollback) f = let u = update-lengths (not-of _ Insert f (λ q. cc)) (not-of _ Delete f (λ q. cc)) in omega arith
  lengths-by (Some Insert) f = omega (arith, place-low)
  lengths-by (Some Delete) f = omega (arith, place-low)
  lengths-by (Some Checkpoint) f = let u = update-lengths (not-of _ Insert f (λ q. cc)) (not-of _ Delete f (λ q. cc)) in omega arith
  lengths-by (Some Update) f = let u = update-lengths (not-of _ Insert f (λ q. cc)) (not-of _ Delete f (λ q. cc)) in omega arith
  lengths-by None f = let u = update-lengths (not-of _ Insert f (λ q. cc)) (not-of _ Delete f (λ q. cc)) in omega arith

  pub old_by_kind : 10 ≤ by_kind 10 10 v.old_len v.old_len v.old_len (kind_of v.kind)
  old_by_kind = (lengths-by (kind_of v.kind) refl).0

  pub new_by_kind : 10 ≤ by_kind 10 10 v.new_len v.new_len v.new_len (kind_of v.kind)
  new_by_kind = (lengths-by (kind_of v.kind) refl).1

  pub room_by_kind : at + by_kind 0 0 (45 + v.old_len + v.new_len) (45 + v.old_len + v.new_len) (45 + v.old_len + v.new_len) (kind_of v.kind) ≤ length s
  room_by_kind = (lengths-by (kind_of v.kind) refl).2

  pub before_by_kind : {m : Image} → m ≡ by_kind (logged (at + 41) 0) (logged (at + 41) v.old_len) (logged (at + 51) (v.old_len - 10)) (logged (at + 51) (v.old_len - 10)) (logged (at + 51) (v.old_len - 10)) (kind_of v.kind)
      → InLog s m (before_of (said s at)) × LoggedAt m (before_at (entry_in s at))
  before_by_kind em = before-by (kind_of v.kind) refl em

  pub after_by_kind : {m : Image} → m ≡ by_kind (logged (at + 45) v.new_len) (deleted (at + 41) v.old_len v.txn) (logged (at + 55 + v.old_len) (v.new_len - 10)) (logged (at + 55 + v.old_len) (v.new_len - 10)) (logged (at + 55 + v.old_len) (v.new_len - 10)) (kind_of v.kind)
      → InLog s m (after_of (said s at)) × LoggedAt m (after_at (entry_in s at))
  after_by_kind em = after-by (kind_of v.kind) refl em
