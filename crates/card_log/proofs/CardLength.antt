-- What question 1 says of a card's length.
use mathlib.Core.Path.{◌≡◌}
use mathlib.Core.Bool.{true, ◌&&◌}
use mathlib.Core.List.{List}
use Prim.Native.Nat.{ℕ, ◌*◌, ◌%◌, ◌≤◌, ◌<◌}
use native.Mathlib.Omega.{arith}
use lib.Dec.{leb, eqb}
use lib.ListN.{length}
use Rattle.lists.proofs.Basic.{and-true, eqb-true, leb-true}
use Rattle.card_log.specs.Card.{card_length, segments_in}

pub card-size : (c : List ℕ) → card_length c ≡ true → (length c ≡ 4096 * segments_in c) × (0 < segments_in c)
unfolding card_length
card-size c h =
    let (a, b) = and-true (eqb (length c % 4096) 0 && leb 1 (segments_in c)) (leb (segments_in c) 64) h in
    let (x, y) = and-true (eqb (length c % 4096) 0) (leb 1 (segments_in c)) a in
    let m = eqb-true (length c % 4096) 0 x in
    (omega arith, leb-true 1 (segments_in c) y)

pub card-small : (c : List ℕ) → card_length c ≡ true → (length c ≡ 4096 * segments_in c) × (segments_in c ≤ 64)
unfolding card_length
card-small c h = ((card-size c h).0, leb-true (segments_in c) 64 (and-true (eqb (length c % 4096) 0 && leb 1 (segments_in c)) (leb (segments_in c) 64) h).1)

pub same_length : (c e : List ℕ) → length e ≡ length c → card_length c ≡ true → card_length e ≡ true
unfolding card_length
same_length c e q h = rw q h
