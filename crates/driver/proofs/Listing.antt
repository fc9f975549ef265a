-- Words put into a buffer one after the other: word by word (`words-next`), entry by entry (`head-ended`, `head-behind`), and what they make of the
-- whole listing (`lists-accepted`).
use mathlib.Core.Path.{◌≡◌, refl, sym, ap, ◌∙◌}
use mathlib.Core.Logic.{◌≢◌}
use mathlib.Core.List.{List, [], ◌∷◌, ◌++◌, map}
use Prim.Native.Nat.{ℕ, zero, suc, ◌+◌, ◌-◌, ◌*◌, ◌≤◌, ◌<◌, min}
use native.Mathlib.Omega.{arith}
use native.Mathlib.Nat.{add-zero}
use native.Mathlib.Decide.{dec_le}
use lib.ListN.{length, take, drop, get_or, set, length-take, length-drop, length-map}
use lib.Seq.{sets, sets-eq, drop-cons, drop-append-le, take-append-le, take-append-add, take-take, take_all}
use Rattle.std.specs.Prelude.{Result}
use Rattle.std.specs.Result.{IsErrAnd}
use Rattle.std.proofs.lemmas.List.{take_min}
use Rattle.lists.proofs.Basic.{eqb-false}
use Rattle.card_log.specs.Store.{Store, format_stores}
use Rattle.card_log.proofs.Formatting.{format-length}
use Rattle.answers.specs.declared.Refusal.{Refusal}
use Rattle.disk.specs.Disk.{Disk}
use Rattle.disk.specs.Call.{Call}
use Rattle.disk.specs.Questions.{refusal}
use Rattle.disk.specs.Perform.{refusal_answer}
use Rattle.answers.specs.Answers.{number, refused_answer, accepted_answer, number_answer}
use Rattle.calls.proofs.Storing.{several}
use Rattle.inspect.proofs.Asking.{number-some, exit_is}
use Rattle.calls.proofs.Refusing.{Usual, not-two, number-refused}
use Rattle.driver.specs.Stores.{stores_made, word, list_stores}
use Rattle.driver.specs.promises.Listing.{listed}

pub listed-none : (k : ℕ) (x : List ℕ) → listed k [] x ≡ (k, x)
listed-none k x = ap (λ (n : ℕ). (n, x)) (add-zero k)

pub listed-one : (k : ℕ) (s : Store) (ss : List Store) (x : List ℕ) → listed k (s ∷ ss) x ≡ listed (suc k) ss (set x k (word s))
listed-one k s ss x = let e : k + suc (length ss) ≡ suc k + length ss = omega arith in ap (λ (n : ℕ). (n, sets (set x k (word s)) (suc k) (map word ss))) e

pub listed_more : (k : ℕ) (ss ts : List Store) (x : List ℕ) → listed k (ss ++ ts) x ≡ listed (k + length ss) ts (sets x k (map word ss))
listed_more k [] ts x = let e : k ≡ k + 0 = omega arith in ap (λ (n : ℕ). listed n ts x) e
listed_more k (s ∷ ss) ts x =
    let e : suc k + length ss ≡ k + suc (length ss) = omega arith in
    listed-one k s (ss ++ ts) x ∙ listed_more (suc k) ss ts (set x k (word s)) ∙ ap (λ (n : ℕ). listed n ts (sets x k (map word (s ∷ ss)))) e

-- m words at most, and so many stand there
pub listed-done : (at m : ℕ) (ss : List Store) (x : List ℕ) → m ≤ at → listed at (take (m - at) ss) x ≡ (at, x)
listed-done at m ss x h = let e : m - at ≡ 0 = omega arith in ap (λ (n : ℕ). listed at (take n ss) x) e ∙ listed-none at x

-- The stores of an entry up to number u, as a loop meets them.
pub words-next : (k u i : ℕ) (ss : List Store) (x : List ℕ) → k < u → k < length ss
    → sets (set x i (word (get_or ss k (0, 0)))) (suc i) (map word (several (k + 1) (u - (k + 1)) ss)) ≡ sets x i (map word (several k (u - k) ss))
words-next k u i ss x g l =
    let a : u - k ≡ suc (u - (k + 1)) = omega arith in
    let b : k + 1 ≡ suc k = omega arith in
    sym (ap (λ (m : ℕ). sets x i (map word (several k m ss))) a
    ∙ ap (λ (ts : List Store). sets x i (map word (take (suc (u - (k + 1))) ts))) (drop-cons ss k (0, 0) l)
    ∙ ap (λ (m : ℕ). sets (set x i (word (get_or ss k (0, 0)))) (suc i) (map word (several m (u - (k + 1)) ss))) (sym b))

pub words-done : (k u i : ℕ) (ss : List Store) (x : List ℕ) → u ≤ k → sets x i (map word (several k (u - k) ss)) ≡ x
words-done k u i ss x g = let e : u - k ≡ 0 = omega arith in ap (λ (m : ℕ). sets x i (map word (several k m ss))) e

-- The stores ss of the head, k of which are made, before those behind it, ts: at most m words, of which at stand in the buffer.
module _ (ss ts : List Store) (k m at : ℕ) (x : List ℕ) (a : at ≤ m) (l : k ≤ length ss) where
  head-front : take (m - at) (drop k (ss ++ ts)) ≡ take (m - at) (drop k ss ++ ts)
  head-front = ap (take (m - at)) (drop-append-le k ss ts l)

  pub head-ended : m - at ≤ length ss - k → listed at (take (m - at) (drop k (ss ++ ts))) x ≡ (m, sets x at (map word (several k (m - at) ss)))
  head-ended h =
      let n = length-drop k ss in
      let e : at + length (several k (m - at) ss) ≡ m = omega (arith, n, length-take (m - at) (drop k ss)) in
      ap (λ (us : List Store). listed at us x) (head-front ∙ take-append-le (m - at) (drop k ss) ts (omega (arith, n)))
      ∙ ap (λ (c : ℕ). (c, sets x at (map word (several k (m - at) ss)))) e

  pub head-behind : length ss - k ≤ m - at
      → listed at (take (m - at) (drop k (ss ++ ts))) x ≡ (let t = at + (length ss - k) in listed t (take (m - t) ts) (sets x at (map word (several k (length ss - k) ss))))
  head-behind h =
      let n = length-drop k ss in
      let t = at + (length ss - k) in
      let e : m - at ≡ length (drop k ss) + (m - t) = omega (arith, n) in
      let f : at + length (drop k ss) ≡ t = omega (arith, n) in
      ap (λ (us : List Store). listed at us x) (head-front ∙ ap (λ (c : ℕ). take c (drop k ss ++ ts)) e ∙ take-append-add (drop k ss) ts (m - t))
      ∙ listed_more at (drop k ss) (take (m - t) ts) x
      ∙ ap (λ (c : ℕ). listed c (take (m - t) ts) (sets x at (map word (drop k ss)))) f
      ∙ ap (λ (us : List Store). listed t (take (m - t) ts) (sets x at (map word us))) (sym (take_all (length ss - k) (drop k ss) (omega (arith, n))))

-- A formatting's: at most m are listed, m being the smaller of the segments n and the buffer's room, and at of them are.
pub counts_start : (n r m : ℕ) (x : List ℕ) → m ≡ min n r → listed 0 (take (m - 0) (format_stores (n - 0))) x ≡ listed 0 (take r (format_stores n)) x
counts_start n r m x h =
    let e : n - 0 ≡ n = omega arith in
    let f : m - 0 ≡ min r (length (format_stores n)) = omega (arith, h, format-length n) in
    rw (e, f) (ap (λ (ss : List Store). listed 0 ss x) (take_min r (format_stores n)))

pub counts-next : (n m at : ℕ) (x : List ℕ) → at < m → m ≤ n
    → listed (at + 1) (take (m - (at + 1)) (format_stores (n - (at + 1)))) (set x at (word (4096 * (n - at - 1) + 3584, 0))) ≡ listed at (take (m - at) (format_stores (n - at))) x
unfolding format_stores
counts-next n m at x l h =
    let a : m - at ≡ suc (m - (at + 1)) = omega arith in
    let b : n - at ≡ suc (n - (at + 1)) = omega arith in
    let c : suc (n - (at + 1)) - 1 ≡ n - (at + 1) = omega arith in
    let e : at + 1 ≡ suc at = omega arith in
    let s : Store = (4096 * (n - (at + 1)) + 3584, 0) in
    sym (rw (a, b) (listed-one at s (take (m - (at + 1)) (format_stores (n - (at + 1)))) x ∙ rw (c, e)))

-- The listing whole.
map-take : (n : ℕ) (ss : List Store) → take n (map word ss) ≡ map word (take n ss)
map-take zero ss = refl
map-take (suc n) [] = refl
map-take (suc n) (s ∷ ss) = ap (λ (ws : List ℕ). word s ∷ ws) (map-take n ss)

listed-whole : (ss : List Store) (x : List ℕ) → length ss ≤ length x → listed 0 ss x ≡ (let ws = map word ss in (length ws, ws ++ drop (length ws) x))
listed-whole ss x h =
    let n = length-map ss word in
    let a : 0 + length ss ≡ length (map word ss) = omega (arith, n) in
    let b : 0 + length (map word ss) ≡ length (map word ss) = omega arith in
    (λ i. (a i, (sets-eq (map word ss) x 0 (omega (arith, n)) ∙ ap (λ (k : ℕ). map word ss ++ drop k x) b) i))

pub lists-accepted : (c : Call) (d : Disk) (x : List ℕ) (r : ℕ) (x' : List ℕ) → refusal c d ≡ 0 → listed 0 (take (length x) (stores_made c d)) x ≡ (r, x')
    → list_stores c d x ≡ (accepted_answer r 0, x')
unfolding list_stores
lists-accepted c d x r x' h e =
    let ss = take (length x) (stores_made c d) in
    let w = sym (listed-whole ss x (omega (arith, length-take (length x) (stores_made c d)))) ∙ e in
    rw (h, list_stores)
    (rw (map-take (length x) (stores_made c d)) (λ i. (accepted_answer (w i).0 0, (w i).1)))

pub lists-refused : (c : Call) (d : Disk) (x : List ℕ) (y : Refusal) → number y ≢ 2 → refusal c d ≡ number y → list_stores c d x ≡ (refused_answer y, x)
unfolding list_stores refusal_answer
lists-refused c d x y z h =
    let (m, e) = number-some y in
    rw (h ∙ e, list_stores) (ap (λ (n : ℕ). (refusal_answer n d, x)) (sym e) ∙ rw (eqb-false (number y) 2 z, refusal_answer))

-- where a `?` leaves
pub lists-exit : (c : Call) (d : Disk) (x : List ℕ) → Usual c → (r : Result ℕ Refusal) (y : Refusal) → IsErrAnd r (λ z. z ≡ y) → refusal c d ≡ number y → list_stores c d x ≡ (number_answer r, x)
lists-exit c d x u r y e h = rw (exit_is r y e, number-refused y) (lists-refused c d x y (not-two c d y u h) h)

-- at most a, and at most n
pub take-smaller : (a n m : ℕ) (ss : List Store) → m ≡ min a n → take n (take a ss) ≡ take m ss
take-smaller a n m ss h = go (dec_le a n)
  where
    go : Dec (a ≤ n) → take n (take a ss) ≡ take m ss
    go (yes l) =
        let e : a ≡ m = omega (arith, h) in
        take_all n (take a ss) (omega (arith, length-take a ss)) ∙ rw e
    go (no l) =
        let e : n ≡ m = omega (arith, h) in
        take-take n a ss (omega arith) ∙ rw e
