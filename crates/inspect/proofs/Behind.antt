-- The place behind the log of an acceptable card lies on the card, and holds no more than a segment does.
use mathlib.Core.Path.{◌≡◌}
use mathlib.Core.Bool.{true}
use mathlib.Core.List.{List, []}
use Prim.Native.Nat.{ℕ, ◌-◌, ◌<◌}
use native.Mathlib.Omega.{arith}
use lib.ListN.{get_or}
use Rattle.card_log.specs.Entry.{Entry}
use Rattle.card_log.specs.Reader.{Reader}
use Rattle.card_log.specs.Card.{Written, card_length, segments_in, sound, mounted}
use Rattle.card_log.specs.Store.{opened, after_all, tail}
use Rattle.card_log.specs.promises.Within.{Within}
use Rattle.card_log.proofs.CardLength.{card-size}
use Rattle.card_log.proofs.Segment.{Holds, Carries}
use Rattle.card_log.proofs.Places.{used, used_le, after-slots, after-bytes}
use Rattle.card_log.proofs.Flows.{end_of, tail-end}
use Rattle.card_log.proofs.Stores.{Sane, sane-tail}
use Rattle.card_log.proofs.Regain.{carries-read}

-- behind the entries that a segment holds
within_held : (c : List ℕ) (n g : ℕ) (es : List (Entry Written)) → Holds c g es → Sane n (after_all (opened g) es) → Within (after_all (opened g) es)
unfolding opened
within_held c n g es h s = record {
  entries = s.two;
  bytes = omega (arith, after-bytes (opened g) 0 es, h.short);
  slots = omega (arith, after-slots (opened g) es, h.few);
}

within_end : (c : List ℕ) (n : ℕ) (ess : List (List (Entry Written))) → Carries c ess → Sane n (end_of ess) → Within (end_of ess)
unfolding end_of
within_end c n ess k s =
    within_held c n (used ess - 1) (get_or ess (used ess - 1) []) (k.holds (used ess - 1) (omega (arith, used_le ess, k.some-segment))) s

pub tail_within : (c : List ℕ) (z : Reader Written) → card_length c ≡ true → mounted c ≡ sound z → Within (tail c) × ((tail c).segment < segments_in c)
tail_within c z l h =
    let (n, p) = card-size c l in
    let (ess, k, r) = carries-read (segments_in c) c z p n h in
    let s : Sane (segments_in c) (tail c) = sane-tail c ess k in
    let e : tail c ≡ end_of ess = tail-end c ess k in
    (rw e (within_end c (segments_in c) ess k (rw e at s)), s.inside)
