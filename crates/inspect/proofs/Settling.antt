-- The clauses behind the log, one after the other: what each way of asking them leaves.
use mathlib.Core.Path.{◌≡◌, refl, sym, ap, ◌∙◌}
use mathlib.Core.Bool.{Bool, true, false, ◌&&◌, and-true as and_yes, true≢false, false≢true}
use mathlib.Core.Option.{some, some-injective}
use mathlib.Core.List.{List, []}
use Prim.Native.Nat.{ℕ}
use Rattle.lists.specs.Basic.{is_some, all, each}
use Rattle.lists.specs.Numbers.{all_numbers}
use Rattle.lists.specs.State.{Row}
use Rattle.lists.specs.promises.Tables.{Tables, OfShown}
use Rattle.lists.proofs.Lookup.{lists-shown}
use Rattle.card_log.specs.Reader.{Reader, replay}
use Rattle.card_log.specs.promises.Feed.{Memory, Keeps}
use Rattle.disk.specs.Record.{Record}
use Rattle.disk.specs.Disk.{disk, queued}
use Rattle.disk.specs.Sound.{holder_sound, listed_sound, head_standing}
use Rattle.inspect.specs.promises.Located.{queue_said, queue_here}
use Rattle.inspect.specs.promises.Clauses.{lawful, Replays, settled_right, Settles}

both_false : (a b c : Bool) → a && b ≡ false → false ≡ a && (b && c)
both_false true true c h = absurd (true≢false h)
both_false true false c h = refl
both_false false b c h = refl

-- the clauses of the holders and of the free numbers' order
abbrev holders_right : Record → List (Row ℕ) → Bool
holders_right r rs = all (holder_sound r rs) all_numbers

abbrev all_listed : Record → List (Row ℕ) → Bool
all_listed r rs = all (listed_sound r rs) all_numbers

module _ (c q : List ℕ) (r : Record) (x : Reader ℕ) where
  abbrev heads : Bool
  heads = head_standing c r.ring.done (queued (disk c q [] r))

  settled-refused : lawful (queue_said r) && is_some (replay x (queue_here r)) ≡ false → false ≡ settled_right c q r x
  unfolding settled_right each
  settled-refused h = both_false (lawful (queue_said r)) (is_some (replay x (queue_here r))) _ h

  settled-entered : lawful (queue_said r) ≡ true → (y : Reader ℕ) → replay x (queue_here r) ≡ some y
      → holders_right r y.state.lists && (all_listed r y.state.lists && heads) ≡ settled_right c q r x
  unfolding settled_right each is_some
  settled-entered h y e = rw (h, e) (ap (λ (b : Bool). holders_right r y.state.lists && (all_listed r y.state.lists && b)) (sym (and_yes heads)))

-- the tests before the head's answer v
abbrev pub Left : List ℕ → List ℕ → Memory → ℕ → Record → Tables → Bool → Type 0
Left c q m run r t v = (v ≡ false → Settles c q m run r false t) × (v ≡ true → (k : Bool) → k ≡ head_standing c r.ring.done (queued (disk c q [] r)) → Settles c q m run r k t)

-- the queue was fed, its answer b
module _ (c q : List ℕ) (m : Memory) (run : ℕ) (r : Record) (b : Bool) (t : Tables) (fed : Replays m run r b t) where
  settles-refused : b ≡ false → Settles c q m run r false t
  settles-refused h = record {
    answer = λ x k. settled-refused c q r x (rw h at (fed x k));
    shows = λ x y k e. absurd (false≢true e);
  }

  pub left-refused : (v : Bool) → v ≡ b → b ≡ false → Left c q m run r t v
  left-refused v e h = (λ z. settles-refused h, λ z. absurd (false≢true (sym h ∙ sym e ∙ z)))

  -- the holders have answer h
  module _ (entered : b ≡ true) (h : Bool) (held : OfShown t (λ rs. h ≡ holders_right r rs)) where
    settles-held : h ≡ false → Settles c q m run r false t
    settles-held z = record {
      answer = λ x k.
          let (l, y, e, s) = rw entered at (fed x k) in
          ap (λ (b : Bool). b && (all_listed r y.state.lists && heads c q r x)) (sym z ∙ held y.state.lists (lists-shown t y.state s))
          ∙ settled-entered c q r x l y e;
      shows = λ x y k e. absurd (false≢true e);
    }

    pub left-held : (v : Bool) → v ≡ h → h ≡ false → Left c q m run r t v
    left-held v e n = (λ z. settles-held n, λ z. absurd (false≢true (sym n ∙ sym e ∙ z)))

    -- they are right, the free numbers have answer f, and the head k
    module _ (right : h ≡ true) (f : Bool) (listed : OfShown t (λ rs. f ≡ all_listed r rs)) where
      answer-is : (x : Reader ℕ) → Keeps m run x → f && heads c q r x ≡ settled_right c q r x
      answer-is x k =
          let (l, y, e, s) = rw entered at (fed x k) in
          let o = lists-shown t y.state s in
          ap (λ (b : Bool). b && heads c q r x) (listed y.state.lists o)
          ∙ ap (λ (b : Bool). b && (all_listed r y.state.lists && heads c q r x)) (sym right ∙ held y.state.lists o)
          ∙ settled-entered c q r x l y e

      settles-listed : f ≡ false → Settles c q m run r false t
      settles-listed z = record {
        answer = λ x k. ap (λ (b : Bool). b && heads c q r x) (sym z) ∙ answer-is x k;
        shows = λ x y k e. absurd (false≢true e);
      }

      settles-last : f ≡ true → (k : Bool) → k ≡ head_standing c r.ring.done (queued (disk c q [] r)) → Settles c q m run r k t
      settles-last z k e = record {
        answer = λ x n. e ∙ ap (λ (b : Bool). b && heads c q r x) (sym z) ∙ answer-is x n;
        shows = λ x y n a p.
            let (l, w, o, s) = rw entered at (fed x n) in
            let i : w ≡ y = some-injective _ _ (sym o ∙ p) in
            rw i at s;
      }

      pub left-listed : (v : Bool) → v ≡ f → Left c q m run r t v
      left-listed v e = (λ z. settles-listed (sym e ∙ z), λ z. settles-last (sym e ∙ z))
