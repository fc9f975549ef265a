-- "An entry's length is 1 plus the number of ones in bits 0 to 4", and "counts bit 6 too": the count of ones of the masked map is the sum of its
-- standing bits, by one test computed at each of the 256 maps; and an entry is as long as its map says.
use mathlib.Core.Path.{◌≡◌, refl}
use Prim.Native.Nat.{ℕ, zero, suc, ◌+◌, ◌≤◌, ◌<◌}
use native.Mathlib.Omega.{arith}
use lib.Bits.{bit_and}
use lib.Count.{ones}
use lib.Dec.{eqb}
use lib.ListN.{length, get_or}
use Rattle.lists.specs.Basic.{all, from}
use Rattle.lists.specs.Change.{take_list, put_first, put_after, write, del_block, del_list}
use Rattle.lists.proofs.Basic.{eqb-true, all_from}
use Rattle.card_log.specs.Raced.{Raced, raced}
use Rattle.card_log.specs.Entry.{Entry, plain, member, commit, race_bit, race_byte, change_bytes, encode, size_of}

pub ones-masked : (m : ℕ) → m < 256 → 1 + ones (bit_and m 95) ≡ size_of m
unfolding ones all from
ones-masked m h =
    eqb-true (1 + ones (bit_and m 95)) (size_of m) (all_from (λ k. eqb (1 + ones (bit_and k 95)) (size_of k)) (λ k. k) 0 256 refl m (omega arith) (omega arith))

pub race-bit : (n : ℕ) → race_bit n ≤ 64
unfolding race_bit
race-bit zero = omega arith
race-bit (suc n) = omega arith

-- a write has its race byte exactly if its map has the bit
write-size : (b x n : ℕ) → (length (change_bytes 0 (write b (raced x n))) ≡ size_of (0 + (9 + race_bit n))) × (length (change_bytes 128 (write b (raced x n))) ≡ size_of (128 + (9 + race_bit n)))
unfolding change_bytes race_bit race_byte
write-size b x zero = (refl, refl)
write-size b x (suc n) = (refl, refl)

pub encode-size : (e : Entry (Raced ℕ)) → length (encode e) ≡ size_of (get_or (encode e) 0 0)
unfolding encode change_bytes
encode-size (plain (take_list l)) = refl
encode-size (plain (put_first b l)) = refl
encode-size (plain (put_after b l p)) = refl
encode-size (plain (write b s)) = (write-size b s.body s.race).0
encode-size (plain (del_block b)) = refl
encode-size (plain (del_list l)) = refl
encode-size (member (take_list l)) = refl
encode-size (member (put_first b l)) = refl
encode-size (member (put_after b l p)) = refl
encode-size (member (write b s)) = (write-size b s.body s.race).1
encode-size (member (del_block b)) = refl
encode-size (member (del_list l)) = refl
encode-size (commit n) = refl
