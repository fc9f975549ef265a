-- The two sums of Adler-32 over one byte more.
use mathlib.Core.Path.{◌≡◌}
use mathlib.Core.List.{List}
use Prim.Native.Nat.{ℕ, ◌+◌, ◌*◌, ◌%◌, ◌≤◌, ◌<◌}
use lib.ListN.{length, drop, get_or}
use Rattle.std.proofs.lemmas.List.{at_drop_more, at_drop_all}
use Rattle.text.specs.Adler.{adler_from}

pub adler_more : (a b : ℕ) (bytes : List ℕ) (i : ℕ) → i < length bytes
    → adler_from a b (drop i bytes)
    ≡ adler_from ((a + get_or bytes i 0) % 65521) ((b + (a + get_or bytes i 0) % 65521) % 65521) (drop (i + 1) bytes)
unfolding adler_from
adler_more a b bytes i h = at_drop_more (adler_from a b) bytes i 0 h

pub adler_end : (a b : ℕ) (bytes : List ℕ) (i : ℕ) → length bytes ≤ i → adler_from a b (drop i bytes) ≡ 65536 * b + a
unfolding adler_from
adler_end a b bytes i h = at_drop_all (adler_from a b) bytes i h

pub ruleset adler_steps = (adler_more, adler_end)
