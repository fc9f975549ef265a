-- The conflict count of a window, by the calls that were made and what they answered: a customer can count with them.
use Rattle.std.specs.Prelude.{◌≡◌, true, false, ◌&&◌, cond, List, [], ◌∷◌, ℕ, ◌+◌, min, eqb}
use Rattle.std.proofs.Math.Option.{none, some}
use Rattle.disk.specs.Record.{count_of}
use Rattle.disk.specs.Disk.{Disk}
use Rattle.disk.specs.Call.{Call, format, mount, conflict_count, on_stream, in_view, begin, end, flush, ends, resets}
use Rattle.disk.specs.Questions.{is_window, refusal}
use Rattle.disk.specs.Perform.{perform}
use Rattle.crash.specs.Event.{Event, called, cut_between, cut_flush, cut_format, World, lend, step}
use Rattle.crash.specs.Demand3.{play, valid, begun}

-- the calls with the numbers that they answered, the last one first
unfoldable pub heard : World → Event → List (Call × ℕ) → List (Call × ℕ)
heard w (called c p) xs = (c, (perform c (lend p w.disk)).answer.code) ∷ xs
heard w (cut_between x) xs = xs
heard w (cut_flush a k x) xs = xs
heard w (cut_format k x) xs = xs

unfoldable pub heard_all : World → List Event → List (Call × ℕ) → List (Call × ℕ)
heard_all w [] xs = xs
heard_all w (e ∷ es) xs = heard_all (step w e) es (heard w e xs)

-- the window that unit u's last accepted Begin named
unfoldable pub window_named : ℕ → List (Call × ℕ) → ℕ
window_named u [] = 0
window_named u ((format, n) ∷ xs) = window_named u xs
window_named u ((mount, n) ∷ xs) = window_named u xs
window_named u ((conflict_count w, n) ∷ xs) = window_named u xs
window_named u ((on_stream s e, n) ∷ xs) = window_named u xs
window_named u ((in_view v k, n) ∷ xs) = window_named u xs
window_named u ((begin v w, n) ∷ xs) = cond (eqb n 0 && eqb v u) w (window_named u xs)
window_named u ((end v, n) ∷ xs) = window_named u xs
window_named u ((flush a, n) ∷ xs) = window_named u xs

-- the Ends refused 12 since the last accepted mounting or formatting whose unit's Begin named window w
unfoldable pub refused_ends : ℕ → List (Call × ℕ) → ℕ
refused_ends w [] = 0
refused_ends w (x ∷ xs) =
    cond (resets x.0 && eqb x.1 0) 0
    (elim (ends x.0) [ none ↦ refused_ends w xs | some u ↦ cond (eqb x.1 12 && eqb (window_named u xs) w) (refused_ends w xs + 1) (refused_ends w xs) ])

-- "Each window has its own count, which stops at 65,535 [..]": after any valid list of events, unless a cut is not yet mounted over, it is this number
abbrev pub ConflictsByHistory : Type 0
ConflictsByHistory =
    (d : Disk) → refusal format d ≡ 0 → (es : List Event) → valid (begun d) es ≡ true
    → let w = (play (begun d) es).world in w.down ≡ false → (n : ℕ) → is_window n ≡ true
    → count_of w.disk.rec n ≡ min 65535 (refused_ends n (heard_all (begun d).world es []))
