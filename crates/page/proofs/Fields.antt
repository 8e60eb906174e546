-- P2: the fields of a packed page read back.
-- Assumes nothing.
use mathlib.Core.Path.{◌≡◌, refl}
use Prim.Native.Nat.{ℕ, ◌*◌, ◌-◌, ◌^◌, ◌<◌}
use native.Mathlib.Omega.{arith}
use mathlib.Core.List.{List}
use lib.ListN.{length}
use lib.Seq.{take_at, drop_at}
use Rattle.endian.specs.Numbers.{bytes_of, number_of, number_at, Bytes}
use Rattle.endian.proofs.Numbers.{number-back}
use Rattle.crc32c.specs.Crc.{crc32c}
use Rattle.crc32c.proofs.Range.{crc-lt}
use Rattle.page.specs.Layout.{body_bytes, magic_of, type_of, flags_of, count_of, crc_of, id_of, lsn_of, free_start_of, free_end_of, reserved_of, body_of}
use Rattle.page.specs.Packed.{Head, packed, body, tuple_bytes}

module _ (h : Head) (ss : List (List ℕ)) where
  pub magic-back : h.magic < 2 ^ 64 → magic_of (packed h ss) ≡ h.magic
  unfolding packed number_at bytes_of number_of
  magic-back b = number-back 8 h.magic b

  pub type-back : h.type < 256 → type_of (packed h ss) ≡ h.type
  unfolding packed number_at bytes_of number_of
  type-back b = number-back 1 h.type b

  pub flags-back : flags_of (packed h ss) ≡ 0
  unfolding packed number_at bytes_of number_of
  flags-back = refl

  pub count-back : length ss < 65536 → count_of (packed h ss) ≡ length ss
  unfolding packed number_at bytes_of number_of
  count-back b = number-back 2 (length ss) b

  pub crc-back : Bytes (body ss) → crc_of (packed h ss) ≡ crc32c (body ss)
  unfolding packed number_at bytes_of number_of
  crc-back b = number-back 4 (crc32c (body ss)) (crc-lt b)

  pub id-back : h.id < 2 ^ 64 → id_of (packed h ss) ≡ h.id
  unfolding packed number_at bytes_of number_of
  id-back b = number-back 8 h.id b

  pub lsn-back : h.lsn < 2 ^ 64 → lsn_of (packed h ss) ≡ h.lsn
  unfolding packed number_at bytes_of number_of
  lsn-back b = number-back 8 h.lsn b

  pub free_start-back : 4 * length ss < 65536 → free_start_of (packed h ss) ≡ 4 * length ss
  unfolding packed number_at bytes_of number_of
  free_start-back b = number-back 2 (4 * length ss) b

  pub free_end-back : free_end_of (packed h ss) ≡ body_bytes - tuple_bytes ss
  unfolding packed number_at bytes_of number_of
  free_end-back = number-back 2 (body_bytes - tuple_bytes ss) (omega arith)

  pub reserved-back : length h.reserved ≡ 28 → reserved_of (packed h ss) ≡ h.reserved
  unfolding packed bytes_of
  reserved-back e = take_at h.reserved (body ss) 28 e

  pub body_back : length h.reserved ≡ 28 → body_of (packed h ss) ≡ body ss
  unfolding packed bytes_of
  body_back e = drop_at h.reserved (body ss) 28 e
