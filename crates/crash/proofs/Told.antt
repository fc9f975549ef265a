-- What the book's log tells: the segments with the line behind them are the labelled entries of the history (`Told`), so the segments alone are
-- those of its longest prefix whose closing stores are on the card (`Shown`). A flush only moves entries, so it keeps `Told` as it is.
use mathlib.Core.Path.{◌≡◌, refl, sym, ap, ◌∙◌}
use mathlib.Core.Option.{some}
use mathlib.Core.List.{List, [], ◌++◌, append_assoc, append-nil}
use Prim.Native.Nat.{ℕ, ◌-◌}
use native.Mathlib.Nat.{zero-add}
use lib.ListN.{length, drop, take, replicate, take-append-drop}
use lib.Seq.{take_at}
use Rattle.lists.specs.Basic.{joined}
use Rattle.lists.specs.Change.{Change}
use Rattle.lists.proofs.Basic.{bind-some, joined-nils}
use Rattle.card_log.specs.Entry.{Entry}
use Rattle.card_log.specs.Reader.{Reader, start, replay}
use Rattle.card_log.specs.Card.{Written}
use Rattle.card_log.proofs.Replay.{replay-append}
use Rattle.crash.specs.Book.{Book, Waiting, Act, longest, closing_on_card, on_card, settle, keep_first, book_format, with_batch, empty_book}
use Rattle.crash.proofs.History.{tell, tell-append, run_after, label, label-append, label-take, on-card}
use Rattle.crash.proofs.Book.{joined-keep}

-- the log and the line behind it tell the history, and replay
pub record Told (b : Book) : Type 0 where
  pub entries : List (Entry Written)
  pub log : joined b.segs ++ b.line ≡ label 0 entries
  pub history : b.history ≡ tell [] entries
  pub reader : Reader Written
  pub replays : replay start entries ≡ some reader

-- what is placed on segments tells the longest prefix whose closing stores are there, and replays
pub record Shown (ss : List (List Waiting)) (hs : List Act) : Type 0 where
  pub entries : List (Entry Written)
  pub log : joined ss ≡ label 0 entries
  pub prefix : longest (closing_on_card ss) 0 hs ≡ tell [] entries
  pub reader : Reader Written
  pub replays : replay start entries ≡ some reader

-- some first entries of what replays
shown : (ss : List (List Waiting)) (more : List Waiting) (es : List (Entry Written)) (hs : List Act) (z : Reader Written)
    → joined ss ++ more ≡ label 0 es → hs ≡ tell [] es → replay start es ≡ some z → Shown ss hs
shown ss more es hs z h k r = record {
  entries = p;
  log = here;
  prefix = ap (longest (closing_on_card ss) 0) (k ∙ ap (tell []) (sym split) ∙ tell-append [] p q) ∙ on-card ss p (tell (run_after [] p) q) here;
  reader = first.0;
  replays = first.1;
}
  where
    n : ℕ
    n = length (joined ss)

    p : List (Entry Written)
    p = take n es

    q : List (Entry Written)
    q = drop n es

    split : p ++ q ≡ es
    split = take-append-drop n es

    here : joined ss ≡ label 0 p
    here = sym (take_at (joined ss) more n refl) ∙ ap (take n) h ∙ sym (label-take 0 n es)

    first : (y : Reader Written) × (replay start p ≡ some y) × (replay y q ≡ some z)
    first = bind-some (replay start p) (λ y. replay y q) z (sym (replay-append start p q) ∙ ap (replay start) split ∙ r)

pub told-shown : (b : Book) → Told b → Shown b.segs b.history
told-shown b t = shown b.segs b.line t.entries b.history t.reader t.log t.history t.replays

pub format-shown : (k : ℕ) (b : Book) → Told b → Shown (book_format k b).segs (book_format k b).history
unfolding book_format
format-shown k b t =
    let m = length b.segs - k in
    shown (keep_first m b.segs) (joined (drop m b.segs) ++ b.line) t.entries b.history t.reader
    (sym (append_assoc (joined (keep_first m b.segs)) (joined (drop m b.segs)) b.line)
    ∙ ap (λ (r : List Waiting). r ++ b.line) (joined-keep m b.segs)
    ∙ t.log)
    t.history t.replays

-- a mount, a formatting or a cut
pub settle-told : (b : Book) → Shown b.segs b.history → Told (settle b)
unfolding settle on_card
settle-told b s = record {
  entries = s.entries;
  log = append-nil (joined b.segs) ∙ s.log;
  history = s.prefix;
  reader = s.reader;
  replays = s.replays;
}

pub empty-told : (n : ℕ) → Told (empty_book n)
unfolding empty_book label tell replay
empty-told n = record { entries = []; log = append-nil (joined (replicate n [])) ∙ joined-nils n; history = refl; reader = start; replays = refl }

pub with_batch-told : (b : Book) (u : ℕ) (cs : List (Change Written)) → Told b → Told (with_batch b u cs)
unfolding with_batch
with_batch-told b u cs t = record { entries = t.entries; log = t.log; history = t.history; reader = t.reader; replays = t.replays }

-- entries join the line, and what they tell joins the history
pub told_add : (b : Book) (t : Told b) (ws : List Waiting) (hs : List Act) (es : List (Entry Written)) (z : Reader Written)
    → ws ≡ label (length b.history) es → hs ≡ tell (run_after [] t.entries) es → replay t.reader es ≡ some z
    → (b' : Book) → b'.segs ≡ b.segs → b'.line ≡ b.line ++ ws → b'.history ≡ b.history ++ hs → Told b'
told_add b t ws hs es z w h r b' s l k = record {
  entries = t.entries ++ es;
  log =
      ap (λ (x : List (List Waiting)). joined x ++ b'.line) s ∙ ap (λ (x : List Waiting). joined b.segs ++ x) l
      ∙ sym (append_assoc (joined b.segs) b.line ws)
      ∙ ap (λ (x : List Waiting). x ++ ws) t.log
      ∙ ap (λ (x : List Waiting). label 0 t.entries ++ x)
      (w ∙ ap (λ (n : ℕ). label n es) (ap length t.history ∙ sym (zero-add (length (tell [] t.entries)))))
      ∙ sym (label-append 0 [] t.entries es);
  history =
      k ∙ ap (λ (x : List Act). x ++ hs) t.history ∙ ap (λ (x : List Act). tell [] t.entries ++ x) h ∙ sym (tell-append [] t.entries es);
  reader = z;
  replays = replay-append start t.entries es ∙ rw t.replays r;
}
