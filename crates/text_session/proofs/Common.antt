-- The names that most proofs here cite, passed on from one place. Declares nothing.
pub use Rattle.decl_index.specs.Entries.{IndexView, IsBehind}
pub use Rattle.hir_input.specs.declared.edition.EditionYear.{EditionYear}
pub use Rattle.item_tree_db.proofs.Histories.{after_join, after_none, last_append, or_else}
pub use Rattle.item_tree_db.specs.Again.{IsSetAgain}
pub use Rattle.item_tree_db.specs.Edits.{EditView, NamesPlaceOf, edit_view, edits_before, remove, set, set_cfg}
pub use Rattle.item_tree_db.specs.History.{IsAfter, IsFooting, last_some, sets}
pub use Rattle.item_tree_db.specs.Refusal.{FirstFit, FitsAfter, IsCause, IsRefusal, NamesKnown, last_number}
pub use Rattle.item_tree_db.specs.State.{State, present}
pub use Rattle.item_tree_db.specs.declared.edit.Edit.{Edit}
pub use Rattle.item_tree_db.specs.declared.place.Place.{Place}
pub use Rattle.item_tree_db.specs.declared.place.Place.TheVariants.{Block, File}
pub use Rattle.rust_edits.specs.Edits.{HasPlaces, IsReadMoved, PlacesAreKept, ReadsMoved, edited_text, has_item, has_place, shifted_item, shifted_place, shifted_problem}
pub use Rattle.rust_items.specs.SourceFiles.{FileView, IsFileView, bare_file, file_view}
pub use Rattle.rust_items.specs.declared.source_file.ItemPlace.{ItemPlace}
pub use Rattle.rust_items.specs.MemberLists.{is_boundary, is_cut}
pub use Rattle.rust_paths.specs.declared.names.TextRange.{TextRange}
pub use Rattle.source_rows.specs.Places.{AreDistinct}
pub use Rattle.source_rows.specs.ListedFiles.{HasTextOf, IsListedBare, IsListedFile, closers_in}
pub use Rattle.text_session.specs.Edits.{NamesCrateOf, TextEdit, change_text, of_table, set_text, text_edit_view}
pub use Rattle.text_session.specs.Inner.{AreTogether, HasSlot, HasSlotFor, IsFailing, IsPlaced, LeavesPlaced, TellsFault, session_of}
pub use Rattle.text_session.specs.Inside.{CanReplace, HasRoom, IsInside, IsMadeAlone, IsMadeOrNot, IsRetyped, IsRetypedIf, MakesAlone}
pub use Rattle.text_session.specs.Refusals.{edit_refusal, made_count, outcome_of}
pub use Rattle.text_session.specs.Sessions.{AreMade, AreSetTo, IsEdited, IsRefused, IsSetTo, IsStopped, IsUnedited, Session}
pub use Rattle.text_session.specs.Texts.{AreMeant, Fails, FailsAt, FileTexts, IsKept, IsReading, Means, TextChange, Texts, bytes_kept, change_fault, changed_text, forgets, is_long, is_outside, left_text, slot_in, spliced_text, text_after, text_in, text_of_place, unless_fault}
pub use Rattle.text_session.specs.Touched.{AreTouched, IsBehindBy, Touched, touched_keys}
pub use Rattle.text_session.specs.declared.error.EditError.{EditError}
pub use Rattle.text_session.specs.declared.error.EditError.TheVariants.{NotChanged, OutOfMemory, Refused}
pub use Rattle.text_session.specs.declared.splice.ChangeFault.{ChangeFault}
pub use Rattle.text_session.specs.declared.texts.SourceText.{SourceText}
pub use Rattle.std.proofs.Math.Seq.{drop-drop}
pub use Rattle.std.proofs.lemmas.Bool.{and_parts}
pub use Rattle.std.proofs.lemmas.Bool.Decides.{nat_tests}
pub use Rattle.std.proofs.lemmas.List.{append_assoc, get_or-map, length-append, length-drop, length-map, length-take-le, map-append, take_all, take_more}
pub use Rattle.std.proofs.lemmas.List.Elements.{All-cons, All-nil, All-push, All-take, All-weaker}
pub use Rattle.std.proofs.lemmas.Slice.Eq.{bytes_eq-Decides}
pub use Rattle.std.specs.List.{AllByRecursion, list_all}
pub use Rattle.std.specs.Option.{option_and_then, option_copied_mut, option_map, option_or, unwrap_or}
pub use Rattle.std.specs.Ordering.{is_eq}
