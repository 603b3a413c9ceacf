-- Behind the line that made the database: its list lies on the slices that the line names, and what is open is active on the drives on which no call fails.
use Rattle.std.proofs.Common.{◌≡◌, ℕ, ◌≤◌, Bool, true, false, if◌then◌else◌, List, [], ◌∷◌, map, Option, Some, None, MatchOption, Contains, refl, sym, ◌∙◌, ap, subst}
use Rattle.std.proofs.lemmas.Bool.{false≢true}
use Rattle.std.specs.Prelude.{is_some}
use Rattle.mdv_base.specs.declared.drive.SliceName.{SliceName}
use Rattle.mdv_base.specs.declared.mark.Identity.{Identity}
use Rattle.mdv_base.specs.declared.name.Key.{Key}
use Rattle.mdv_engine_law.proofs.Allowed.{allowed_slice}
use Rattle.mdv_engine_law.specs.Commands.{Effect, IsAllowed, case_of}
use Rattle.mdv_engine_law.specs.Hosts.{identity_of, key_of, lines_asked}
use Rattle.mdv_engine_law.specs.Line.{IsCreated, Memory}
use Rattle.mdv_engine_law.specs.Moves.{HasMovedOn}
use Rattle.mdv_engine_law.specs.Replies.{ok_line, text_of}
use Rattle.mdv_engine_law.specs.declared.host.Host.{Host}
use Rattle.mdv_home.specs.View.{own_view}
use Rattle.mdv_name.specs.SliceIndex.{slice_at}
use Rattle.mdv_name.specs.declared.geometry.Geometry.{Geometry}
use Rattle.mdv_places.proofs.Adding.{asked_places, place_of_seat}
use Rattle.mdv_places.specs.Asked.{Adds, names_of}
use Rattle.mdv_port.specs.Script.{Script, line}
use Rattle.mdv_run_law.specs.Lives.{host_of}
use Rattle.mdv_run_law.specs.Run.{At, Counts, IsAnswered, IsOfTable, LineTold, NextLine, RoseTo, drive_failures}
use Rattle.mdv_shelf.specs.Moments.{IsSince}
use Rattle.mdv_shelf.specs.Story.{Story, tale_of}
use Rattle.mdv_shelf.specs.Tale.{Tale}
use Rattle.mdv_store.specs.Create.{seats_asked}
use Rattle.mdv_store.specs.Opened.{Opened}
use Rattle.mdv_volumes.specs.History.{History, history_after_all}
use Rattle.mdv_volumes.proofs.Lists.{contains_behind, contains_first}
use Rattle.mdv_words.specs.Line as words
use Rattle.mdv_words.specs.Line.{IsLine}
use Rattle.mdv_words.specs.Listed.{AreInForm}
use Rattle.mdv_words.specs.declared.command.Command.TheVariants.{AddPlaces}
use Rattle.mdv_theorem.specs.Words.{slices_there, spread}
use Rattle.mdv_theorem.proofs.Along.{open_lies}
use Rattle.mdv_theorem.proofs.Bearing.{Bears, calm_in, unfailed}
use Rattle.mdv_theorem.proofs.Carried.{holds_open}
use Rattle.mdv_theorem.proofs.Come.{HasMetNothing}
use Rattle.mdv_theorem.proofs.Rising.{next_rose, rose_to_more}
use Rattle.mdv_theorem.proofs.Seats.{IsBorne}
use Rattle.mdv_theorem.proofs.Slices.{names_there, slices_of, spread_of}
use Rattle.mdv_theorem.proofs.Sure.{IsSureAt, sure_on}
use Rattle.mdv_theorem.proofs.Tables.{granted_done}
use Rattle.mdv_theorem.proofs.Upheld.{borne_keeps}

module _ (drives : Geometry) (name : List ℕ) where
  -- slices each of which the host has
  all_there : (slices : List SliceName) → ((slice : SliceName) → Contains slices slice → is_some (slice_at (own_view drives name).slices slice) ≡ true) → slices_there drives name slices ≡ slices
  all_there [] each = refl
  all_there (slice ∷ slices) each = by (is_some (slice_at (own_view drives name).slices slice)) (each slice (contains_first slice slices)) (all_there slices (λ other has. each other (contains_behind slice other slices has))) where
    by : (b : Bool) → b ≡ true → slices_there drives name slices ≡ slices → (if b then slice ∷ slices_there drives name slices else slices_there drives name slices) ≡ slice ∷ slices
    by true is rest = ap (λ (l : List SliceName). slice ∷ l) rest
    by false is rest = absurd (false≢true is)

  -- the places of a creation lie on those that it names
  created_slices : (key : Key) (identity : Identity) (count blocks : ℕ) (slices : List SliceName) → ((slice : SliceName) → Contains slices slice → is_some (slice_at (own_view drives name).slices slice) ≡ true)
      → slices_of (map place_of_seat (seats_asked key identity (lines_asked (host_of drives name 0) slices) count blocks)) ≡ spread count slices
  created_slices key identity count blocks slices each =
      ap slices_of (asked_places key identity count blocks (lines_asked (host_of drives name 0) slices)) ∙ spread_of count blocks (names_of (lines_asked (host_of drives name 0) slices)) ∙ ap (spread count) (names_there drives name slices ∙ all_there slices each)

  module _ (fresh : ℕ) (script : Script) (h : History) (t m : Tale) (none : HasMetNothing (host_of drives name fresh) script h t m) (is_host : IsOfTable (host_of drives name fresh)) (start close : Counts) (slices : List SliceName) (count : ℕ) where
    abbrev its : Host
    its = host_of drives name fresh

    -- A line that was told `ok` to making a database, where none was open.
    module _ (now mid : At) (piece : List ℕ) (line_told : LineTold its now piece mid) (sure : IsSureAt its script h t now) (since : (v : Story) → mid.story ≡ Some v → IsSince (tale_of v) m) (low : RoseTo start now.counts) (high : (drive : ℕ) → mid.counts.drives drive ≤ close.drives drive)
        (formed : AreInForm now.kept.memory.entries) (nothing : now.kept.memory.opened ≡ None) (text : List ℕ) (left : Script) (same : now.script ≡ line text left) (force : Bool) (blocks : ℕ) (asks : IsLine text (words.Exec (AddPlaces slices force count blocks))) (ok : text_of line_told.answer ≡ ok_line) where
      comes : IsAnswered (drive_failures now.counts mid.counts) its now.kept text line_told.answer mid.kept
      comes = (subst (λ (l : Script). NextLine its now.counts now.kept l line_told.answer mid.counts mid.kept mid.script) same line_told.comes).2

      done : IsAllowed (case_of its now.kept) (AddPlaces slices force count blocks) × Effect (drive_failures now.counts mid.counts) its now.kept (AddPlaces slices force count blocks) line_told.answer mid.kept
      done = granted_done its (drive_failures now.counts mid.counts) now.kept mid.kept (record { text = text; reply = Some (text_of line_told.answer) }) line_told.answer comes line_told.said refl (AddPlaces slices force count blocks) asks (ap (λ (l : List ℕ). Some l) ok)

      created : IsCreated (drive_failures now.counts mid.counts) its (lines_asked its slices) count blocks now.kept mid.kept
      created = subst (λ (x : Option Opened). MatchOption x (IsCreated (drive_failures now.counts mid.counts) its (lines_asked its slices) count blocks now.kept mid.kept) (λ o. HasMovedOn (drive_failures now.counts mid.counts) its o (Adds (lines_asked its slices) count blocks) now.kept mid.kept)) nothing done.1.1

      now_open : mid.kept.memory.opened ≡ Some created.opened
      now_open = ap (λ (k : Memory). k.opened) created.memory

      pub made_bears : Bears drives name (spread count slices) fresh script h t m none is_host start close [] mid
      made_bears =
          let on = sure_on its script h t m none now mid piece line_told sure since in
          let identity = identity_of its now.kept.memory.begun in
          let places = map place_of_seat (seats_asked (key_of its) identity (lines_asked its slices) count blocks) in
          record {
            lie = record {
              sure = on.next;
              lie = open_lies drives name (spread count slices) fresh [] mid.kept.memory (history_after_all h on.next.come.es) (tale_of on.next.story) created.opened on.next.come.known now_open places (ap (λ (x : Opened). x.table.plan.lists) created.made.is)
                  (created_slices (key_of its) identity count blocks slices (allowed_slice (case_of its now.kept) slices force count blocks done.0));
            };
            holds = holds_open (IsBorne its (calm_in start close)) mid.kept created.opened now_open (subst (λ (k : Memory). AreInForm k.entries) (sym created.memory) formed)
                ((borne_keeps its is_host (calm_in start close) (drive_failures now.counts mid.counts) (unfailed start close now.counts mid.counts low high)).made identity (lines_asked its slices) count blocks mid.kept.content created.formed created.opened created.made);
            low = rose_to_more start now.counts mid.counts low (next_rose its now.counts mid.counts now.kept mid.kept now.script mid.script line_told.answer line_told.comes);
          }
