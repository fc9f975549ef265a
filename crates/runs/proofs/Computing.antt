-- One name that opens every definition a call computes with: after `unfolding computing` a closed run of calls computes.
use Prim.{Unit, tt}
use Rattle.lists.specs.Basic.{is_some, or_else, all, each, times, from, joined}
use Rattle.lists.specs.Change.{map_change, carried_by}
use Rattle.lists.specs.State.{taken, placed, on_list, applies, changed, frees, free_after, apply, apply_all, overlay}
use Rattle.lists.specs.Numbers.{all_numbers}
use Rattle.lists.specs.InUse.{in_use}
use Rattle.card_log.specs.Entry.{map_entry, carried, race_bit, race_byte, change_bytes, encode, raw, entry_length, legal_change, legal, change_of, checked, entry_of, decode, as_change, as_entry}
use Rattle.card_log.specs.Cell.{cell_of, member_in, kind_in, entry_in}
use Rattle.card_log.specs.Reader.{last_of, read, replay}
use Rattle.card_log.specs.Card.{slot, card_slot, card_written, card_length, count, segment_entries, used_by, is_next, entry_at, items_of, segment_items, after_empty, items, walk, walk_card, mounted, splice}
use Rattle.card_log.specs.Store.{do_stores, standing, format_stores, opened, after, after_all, fits, home, behind, behind_all, tail, stores_from, data_of, entry_stores, head_at}
use Rattle.card_log.specs.Flush.{store_next, next_store, flush_from}
use Rattle.disk.specs.Record.{fresh_unit, blank_record, fresh_record, listed_in, with_listed, shaped, released}
use Rattle.disk.specs.Disk.{queued_at, queued, unit_of, journal_at, journal_of, reader_of, committed_reader, state_of, persistent, committed, view, listing}
use Rattle.disk.specs.Sound.{lengths_right, open_unit, journal_sound, unit_sound, holder_sound, order_sound, due_times, listed_sound, head_standing, record_sound}
use Rattle.disk.specs.Call.{ends, lent_to, destination, resets}
use Rattle.disk.specs.Questions.{mountable, stream_open, view_open, predecessor_right, first_free, free_block, free_list, journal_room, end_applies, queue_room, stream_room, edit_questions, look_questions, questions, ask, first_no, refusal}
use Rattle.lists.specs.Lookup.{content_in, content_of, written, blocks_of, next_in, next_after, list_nums}
use Rattle.disk.specs.Perform.{splice_some, enqueue, enqueue_all, journal_add, change, hold, relisted, given, freed, noted, made, put_at, number_given, change_for, read_to, found, opening, given_up, closing, conflicted, unit_entries, flow_of, flushed, after_flush, formatted, accepted, refused, fault_at, refusal_answer, perform, perform_all}
use Rattle.answers.specs.Answers.{ending_number}

unfoldable pub computing : Unit {0}
unfolding is_some or_else all each times from joined map_change carried_by all_numbers taken placed on_list applies changed frees free_after apply apply_all overlay map_entry carried race_bit race_byte change_bytes encode raw entry_length legal_change legal change_of checked entry_of decode as_change as_entry cell_of member_in kind_in entry_in last_of read replay slot card_slot card_written card_length count segment_entries used_by is_next entry_at items_of segment_items after_empty items walk walk_card mounted do_stores format_stores opened after after_all fits home behind behind_all tail stores_from data_of entry_stores store_next next_store flush_from fresh_unit blank_record fresh_record listed_in with_listed shaped released queued_at queued unit_of journal_at journal_of reader_of committed_reader state_of persistent committed view listing lengths_right open_unit in_use journal_sound unit_sound holder_sound order_sound due_times listed_sound standing head_at head_standing record_sound ends lent_to destination resets mountable stream_open view_open predecessor_right first_free free_block free_list journal_room end_applies queue_room stream_room edit_questions look_questions questions ask first_no refusal splice splice_some enqueue enqueue_all journal_add change hold relisted given freed noted made put_at number_given change_for read_to found opening given_up closing conflicted unit_entries content_in content_of written blocks_of next_in next_after list_nums flow_of flushed after_flush formatted ending_number accepted refused fault_at refusal_answer perform perform_all
computing = tt
