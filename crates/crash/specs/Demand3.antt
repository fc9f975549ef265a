-- Demand 3: which state does the terminal wake up with?
--
-- After any list of calls and power cuts, mounting the card is accepted and gives exactly the state after the longest prefix of the serial
-- history whose closing stores are on the card. A drained flush covers all of it.
use Rattle.std.specs.Prelude.{Ok, ◌≡◌, Bool, true, false, ◌&&◌, List, [], ◌∷◌, ℕ, length}
use Rattle.std.proofs.Math.Option.{some}
use Rattle.lists.specs.Basic.{joined}
use Rattle.lists.specs.State.{State, empty, apply_all}
use Rattle.card_log.specs.Card.{Written, segments_in}
use Rattle.disk.specs.Record.{listed_in}
use Rattle.disk.specs.Disk.{Disk, view}
use Rattle.disk.specs.Call.{format, mount, flush}
use Rattle.disk.specs.Questions.{refusal}
use Rattle.disk.specs.Perform.{perform}
use Rattle.answers.specs.declared.Ending.TheVariants.{Drained}
use Rattle.answers.specs.Answers.{flush_answer}
use Rattle.crash.specs.Event.{Event, called, Parts, Rest, World, leaves, answered, step, may_happen}
use Rattle.crash.specs.Book.{Book, empty_book, book_step, on_card}

-- the world, and the book that is kept of it: the book is shown the event and the answer, and nothing else
pub record Scene : Type 0 where
  pub world : World
  pub book : Book

unfoldable pub scene_step : Scene → Event → Scene
scene_step s e = record { world = step s.world e; book = book_step s.book e (answered s.world e) }

unfoldable pub play : Scene → List Event → Scene
play s [] = s
play s (e ∷ es) = play (scene_step s e) es

-- each event may happen where it stands in the list
unfoldable pub valid : Scene → List Event → Bool
valid s [] = true
valid s (e ∷ es) = may_happen s.world e && valid (scene_step s e) es

-- "The list starts right after an accepted formatting, the book empty."
unfoldable pub begun : Disk → Scene
begun d = record {
  world = record { disk = (perform format d).disk; down = false };
  book = empty_book (segments_in d.card);
}

-- what holds of the scene after every valid list of events
abbrev pub Always : (Scene → Type 0) → Type 0
Always P = (d : Disk) → refusal format d ≡ 0 → (es : List Event) → valid (begun d) es ≡ true → P (play (begun d) es)

-- lent data of the right lengths, whatever they hold
abbrev pub Lent : Rest → Type 0
Lent x = (length x.queue_data ≡ 8192) × (length x.journal_data ≡ 15360)

-- A card keeps what the book says: the history's longest prefix acts ("A prefix acts on the empty state, an End's changes in order."), every mounting is
-- accepted, and what it then shows, in whatever view, is the prefix's state: lists, blocks and contents, and "the log's order of freeing", which is the record's own then.
pub record Kept (c : List ℕ) (b : Book) : Type 0 where
  pub state : State Written
  pub prefix : apply_all (joined (on_card b)) empty ≡ some state
  pub mounts : (x : Rest) → Lent x → refusal mount (leaves c x) ≡ 0
  pub shows : (x : Rest) → Lent x → (v : ℕ) → view (perform mount (leaves c x)).disk v ≡ state
  pub order : (x : Rest) → Lent x → listed_in (perform mount (leaves c x)).disk.rec ≡ state.free

abbrev pub Demand3 : Type 0
Demand3 = Always (λ s. Kept s.world.disk.card s.book)

-- "A drained flush covers the history so far.": a flush that may happen and reports drained leaves a book in which the longest prefix whose closing
-- stores are on the card is the whole history.
abbrev pub DrainedCovers : Type 0
DrainedCovers = Always (λ s. (a n : ℕ) (p : Parts)
    → may_happen s.world (called (flush a) p) ≡ true → answered s.world (called (flush a) p) ≡ some (flush_answer (Ok (record { stores = n; ending = Drained })))
    → on_card (scene_step s (called (flush a) p)).book ≡ s.book.history)
