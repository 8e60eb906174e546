use Rattle.summary.proofs.numbers.+put_number.Given as goal

-- the call takes the quotient by 128
abbrev pub decreases-put_number : goal.decreases-put_number
decreases-put_number l = l.n
