-- The listing of a queue: what is listed of its head, and where the listing stands when some entries are listed (`Going`).
use mathlib.Core.Path.{◌≡◌, refl, sym, ap, ◌∙◌, subst}
use mathlib.Core.Bool.{Bool, false}
use mathlib.Core.Option.{none, some}
use mathlib.Core.List.{List, [], ◌∷◌, ◌++◌, map}
use Prim.Native.Nat.{ℕ, ◌+◌, ◌-◌, ◌≤◌, ◌<◌}
use native.Mathlib.Omega.{arith}
use lib.ListN.{length, take, drop}
use lib.Seq.{sets, take-nil, drop-nil}
use Rattle.card_log.specs.declared.entry.LogEntry.{LogEntry}
use Rattle.card_log.specs.declared.place.Place.{Place}
use Rattle.card_log.specs.declared.place.Home.{Home}
use Rattle.card_log.specs.declared.place.Home.TheVariants.{At, Full}
use Rattle.card_log.specs.Entry.{Entry, as_entry}
use Rattle.card_log.specs.Card.{Content, Written, segments_in}
use Rattle.card_log.specs.Store.{Store, after, home, tail, entry_stores}
use Rattle.card_log.specs.Flush.{ahead, rest}
use Rattle.card_log.specs.promises.Within.{Within, as_place}
use Rattle.card_log.proofs.CardLength.{card-small}
use Rattle.card_log.proofs.EntryStores.{entry-stores-length}
use Rattle.card_log.proofs.LogStores.{going, stores-many}
use Rattle.card_log.proofs.Within.{within-home, within-after, home-of-entry, after-of-entry}
use Rattle.disk.specs.Record.{Record}
use Rattle.disk.specs.Disk.{disk}
use Rattle.disk.specs.Perform.{flow_of}
use Rattle.disk.specs.Statements.{todo}
use Rattle.disk.proofs.Questions.{card-length}
use Rattle.calls.specs.promises.Flushing.{Flushable}
use Rattle.calls.proofs.Storing.{several}
use Rattle.calls.proofs.Draining.{entry_here, rest as later, entry_here_lem, rest-step, rest-none, queue-whole}
use Rattle.driver.specs.Stores.{word}
use Rattle.driver.specs.promises.Listing.{listed, Listable, HeadListable, HeadLists}
use Rattle.std.proofs.Common.{ControlFlow, Continue, Break}
use Rattle.driver.proofs.Listing.{listed-none, head-ended, head-behind}

pub lists-met : (n : ℕ) (p : Place) (e f : Entry Written) (k m at : ℕ) (x : List ℕ) (l : ControlFlow ℕ (Place × ℕ)) (x' : List ℕ) → e ≡ f → HeadLists n p e k m at x l x' → HeadLists n p f k m at x l x'
lists-met n p e f k m at x l x' i = subst (λ (y : Entry Written). HeadLists n p y k m at x l x') i

-- The head as the code has it, and its place as the code finds it.
module _ (d : Content) (z : length d ≡ 256) (t : Bool) (e : LogEntry) (n : ℕ) (p : Place) (k : ℕ) (r : HeadListable n p (going d t e) k) (y : Home)
    (i : as_place y ≡ home n p (as_entry false e)) where
  home_found : as_place y ≡ home n p (going d t e)
  home_found = i ∙ sym (home-of-entry d t e n p)

  pub lists-full : (m at : ℕ) (x : List ℕ) → y ≡ Full → HeadLists n p (going d t e) k m at x (Break at) x
  unfolding as_place ahead
  lists-full m at x j q =
      let v : home n p (going d t e) ≡ none = sym home_found ∙ rw j in
      let a : ahead n p (going d t e ∷ q) ≡ [] = rw (v, ahead) in
      ap (λ (ss : List Store). listed at (take (m - at) (drop k ss)) x) a ∙ ap (λ (ss : List Store). listed at (take (m - at) ss) x) (drop-nil k) ∙ ap (λ (ss : List Store). listed at ss x) (take-nil (m - at)) ∙ listed-none at x

  module _ (h : Place) (j : y ≡ At h) where
    abbrev ss : List Store
    ss = entry_stores h (going d t e)

    placed : home n p (going d t e) ≡ some h
    unfolding as_place
    placed = sym home_found ∙ rw j

    ahead-head : (q : List (Entry Written)) → ahead n p (going d t e ∷ q) ≡ ss ++ ahead n (after h (going d t e)) q
    unfolding ahead
    ahead-head q = rw (placed, ahead)

    pub listable : Listable h (going d t e) k
    listable =
        let (w, s, f) = within-home n p h (going d t e) r.within r.inside placed in
        record { within = w; room = f; inside = omega (arith, r.few); left = omega (arith, r.left, stores-many d z t e h, stores-many d z t e p) }

    pub lists-ended : (m at : ℕ) (x x' : List ℕ) → at ≤ m → m - at < length ss - k → x' ≡ sets x at (map word (several k (k + (m - at) - k) ss))
        → HeadLists n p (going d t e) k m at x (Break m) x'
    lists-ended m at x x' a l u q =
        let b : k + (m - at) - k ≡ m - at = omega arith in
        ap (λ (us : List Store). listed at (take (m - at) (drop k us)) x) (ahead-head q)
        ∙ head-ended ss (ahead n (after h (going d t e)) q) k m at x a (omega (arith, listable.left)) (omega arith)
        ∙ rw (u, b)

    pub lists-behind : (m at c : ℕ) (p' : Place) (x x' : List ℕ) → at ≤ m → c ≡ length ss → c - k ≤ m - at → p' ≡ after h (as_entry false e)
        → x' ≡ sets x at (map word (several k (c - k) ss)) → HeadLists n p (going d t e) k m at x (Continue (p', at + (c - k))) x'
    unfolding after
    lists-behind m at c p' x x' a b l f u =
        let v : p' ≡ after h (going d t e) = f ∙ sym (after-of-entry d t e h) in
        let s = within-home n p h (going d t e) r.within r.inside placed in
        record {
          within = rw v (within-after h (going d t e) listable.within listable.room);
          inside = rw v s.1;
          most = omega arith;
          onward = λ q.
              ap (λ (us : List Store). listed at (take (m - at) (drop k us)) x) (ahead-head q)
              ∙ head-behind ss (ahead n (after h (going d t e)) q) k m at x a (omega (arith, listable.left)) (omega (arith, b))
              ∙ rw (u, b, v);
        }

-- The queue, of which at most m stores are listed in the buffer x from the place p on.
module _ (c q : List ℕ) (r : Record) (p : Place) (m : ℕ) (x : List ℕ) where
  unfoldable pub whole : ℕ × List ℕ
  whole = listed 0 (take m (drop r.ring.done (ahead (segments_in c) p (later c q r 0)))) x

  pub whole-todo : (j : List ℕ) → p ≡ tail c → listed 0 (take m (todo (disk c q j r))) x ≡ whole
  unfolding todo rest flow_of whole
  whole-todo j t =
      let s = queue-whole c q r j in
      (λ i. listed 0 (take m (drop r.ring.done (ahead (segments_in c) (sym t i) (s i)))) x)

  -- `gone` entries are listed, k stores of the next one are made, and `at` words stand in the buffer; the log goes on at p'
  pub record Going (x' : List ℕ) (p' : Place) (k at gone : ℕ) : Type 0 where
    pub most : at ≤ m
    pub size : length x' ≡ length x
    pub within : Within p'
    pub inside : p'.segment < segments_in c
    pub begun : gone < r.ring.len → k < length (entry_stores p' (entry_here q r gone))
    pub onward : listed at (take (m - at) (drop k (ahead (segments_in c) p' (later c q r gone)))) x' ≡ whole

  pub going_start : Flushable c q r p → Going x p r.ring.done 0 0
  unfolding whole
  going_start f =
      let i : m - 0 ≡ m = omega arith in
      record {
        most = omega arith;
        size = refl;
        within = f.within;
        inside = f.inside;
        begun = λ l. rw (entry_here_lem c q r 0) at (f.begun l);
        onward = rw i;
      }

  module _ (x' : List ℕ) (p' : Place) (k at gone : ℕ) (g : Going x' p' k at gone) where
    pub whole-drained : r.ring.len ≤ gone → whole ≡ (at, x')
    unfolding ahead
    whole-drained l =
        sym g.onward
        ∙ ap (λ (es : List (Entry Written)). listed at (take (m - at) (drop k (ahead (segments_in c) p' es))) x') (rest-none c q r gone l)
        ∙ ap (λ (ss : List Store). listed at (take (m - at) ss) x') (drop-nil k) ∙ ap (λ (ss : List Store). listed at ss x') (take-nil (m - at)) ∙ listed-none at x'

    module _ (l : gone < r.ring.len) where
      pub going-head : Flushable c q r p → HeadListable (segments_in c) p' (entry_here q r gone) k
      going-head f = record { few = (card-small c (card-length (disk c q f.journal_data r) f.lengths)).1; within = g.within; inside = g.inside; left = g.begun l }

      whole_here : whole ≡ listed at (take (m - at) (drop k (ahead (segments_in c) p' (entry_here q r gone ∷ later c q r (gone + 1))))) x'
      whole_here = sym g.onward ∙ ap (λ (es : List (Entry Written)). listed at (take (m - at) (drop k (ahead (segments_in c) p' es))) x') (rest-step c q r gone l)

      pub whole-ended : (t : ℕ) (x'' : List ℕ) → HeadLists (segments_in c) p' (entry_here q r gone) k m at x' (Break t) x'' → whole ≡ (t, x'')
      whole-ended t x'' h = whole_here ∙ h (later c q r (gone + 1))

      pub going_on : (p'' : Place) (t : ℕ) (x'' : List ℕ) → length x'' ≡ length x' → HeadLists (segments_in c) p' (entry_here q r gone) k m at x' (Continue (p'', t)) x'' → Going x'' p'' 0 t (gone + 1)
      going_on p'' t x'' s h = record {
        most = h.most;
        size = s ∙ g.size;
        within = h.within;
        inside = h.inside;
        begun = λ n. omega (arith, entry-stores-length p'' (entry_here q r (gone + 1)));
        onward = sym (whole_here ∙ h.onward (later c q r (gone + 1)));
      }
