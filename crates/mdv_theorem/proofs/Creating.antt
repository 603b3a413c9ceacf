-- A line that was told to have made a database, where none was open: the table that is open then lists places on its slices, as many on each.
use Rattle.std.proofs.Common.{◌≡◌, ℕ, Bool, true, List, [], ◌∷◌, ◌++◌, refl, MatchOption, None, Option, Some, Contains, sym, ap, subst, ◌∙◌}
use Rattle.std.specs.Prelude.{is_some}
use Rattle.mdv_base.specs.declared.drive.SliceName.{SliceName}
use Rattle.mdv_base.specs.declared.place.Place.{Place}
use Rattle.mdv_engine_law.specs.Commands.{case_of}
use Rattle.mdv_engine_law.specs.Hosts.{identity_of, key_of, line_at, lines_asked}
use Rattle.mdv_engine_law.proofs.Allowed.{allowed_slice}
use Rattle.mdv_engine_law.specs.Line.{IsCreated, Kept, Memory}
use Rattle.mdv_engine_law.specs.Moves.{HasMovedOn}
use Rattle.mdv_engine_law.specs.Replies.{ok_line, text_of}
use Rattle.mdv_engine_law.specs.declared.answer.Answer.{Answer}
use Rattle.mdv_engine_law.specs.declared.host.Host.{Host}
use Rattle.mdv_name.specs.declared.slice_lines.SliceLine.{SliceLine}
use Rattle.mdv_name.specs.SliceIndex.{slice_at}
use Rattle.mdv_name.specs.declared.slice_lines.SliceAt.{SliceAt}
use Rattle.mdv_places.specs.Asked.{Adds, names_of}
use Rattle.mdv_places.proofs.Adding.{asked_places}
use Rattle.mdv_run_law.specs.Run.{IsAnswered, IsSaid}
use Rattle.mdv_run_law.proofs.Extents.{SeesOwn}
use Rattle.mdv_shelf.specs.Failing.{Outcomes}
use Rattle.mdv_store.specs.Create.{seats_asked}
use Rattle.mdv_store.specs.Opened.{Opened}
use Rattle.mdv_config.specs.Slices.{IsSound}
use Rattle.mdv_plan.specs.declared.lists.Lists.TheVariants.{One}
use Rattle.mdv_words.proofs.Form.{commands_are_in_form}
use Rattle.mdv_words.specs.declared.command.Command.TheVariants.{AddPlaces}
use Rattle.mdv_theorem.specs.Exchanges.{Asks, Exchange, IsTold}
use Rattle.mdv_shown.specs.declared.site.Site.{Site}
use Rattle.mdv_volumes.proofs.Lists.{contains_behind, contains_first}
use Rattle.mdv_theorem.proofs.Counting.{AreMadeOn, made_on, places_in}
use Rattle.mdv_theorem.proofs.Slices.{slices_of, spread_of}
use Rattle.mdv_theorem.specs.Words.{spread}
use Rattle.mdv_theorem.proofs.Tables.{granted_done}

-- the lines of slices that are there have their names
names_here : (host : Host) (slices : List SliceName) → ((slice : SliceName) → Contains slices slice → is_some (slice_at host.drives.slices slice) ≡ true) → names_of (lines_asked host slices) ≡ slices
names_here host [] there = refl
names_here host (slice ∷ slices) there = by (slice_at host.drives.slices slice) (there slice (contains_first slice slices)) (names_here host slices (λ other has. there other (contains_behind slice other slices has))) where
  by : (o : Option SliceAt) → is_some o ≡ true → names_of (lines_asked host slices) ≡ slices → names_of (line_at slice o ++ lines_asked host slices) ≡ slice ∷ slices
  by None none rest = absurd (cc (none))
  by (Some at) some rest = ap (λ (l : List SliceName). slice ∷ l) rest

-- what is open was made on these slices
pub record IsMadeThere (lines : List SliceLine) (slices : List SliceName) (count : ℕ) (kept : Kept) : Type 0 where
  pub places : List Place
  pub lie : slices_of places ≡ spread count slices
  pub made : AreMadeOn lines slices places
  pub o : Opened
  pub opened : kept.memory.opened ≡ Some o
  pub lists : o.table.plan.lists ≡ One places
  pub bare : o.table.plan.volumes ≡ []

module _ (host : Host) (sound : IsSound host.drives) (sees : SeesOwn host) (calls : Outcomes) (kept next : Kept) (one : Exchange) (answer : Answer) (comes : IsAnswered calls host kept one.text answer next) (said : IsSaid answer) (told_it : IsTold one (text_of answer))
    (slices : List SliceName) (force : Bool) (count blocks : ℕ) (asks : Asks one (AddPlaces slices force count blocks)) (told : IsTold one ok_line) (none : kept.memory.opened ≡ None) where
  -- what it came to
  created : IsCreated calls host (lines_asked host slices) count blocks kept next
  created =
      let done = granted_done host calls kept next one answer comes said told_it (AddPlaces slices force count blocks) asks told in
      subst (λ (x : Option Opened). MatchOption x (IsCreated calls host (lines_asked host slices) count blocks kept next) (λ o. HasMovedOn calls host o (Adds (lines_asked host slices) count blocks) kept next)) none done.1.1

  pub made_there : IsMadeThere host.site.lines slices count next
  made_there =
      let done = granted_done host calls kept next one answer comes said told_it (AddPlaces slices force count blocks) asks told in
      let is = created in
      let form = commands_are_in_form one.text (AddPlaces slices force count blocks) asks.1 in
      record {
        places = places_in (seats_asked (key_of host) (identity_of host kept.memory.begun) (lines_asked host slices) count blocks);
        lie =
            let names = names_here host slices (allowed_slice (case_of host kept) slices force count blocks done.0) in
            ap slices_of (asked_places (key_of host) (identity_of host kept.memory.begun) count blocks (lines_asked host slices)) ∙ spread_of count blocks (names_of (lines_asked host slices)) ∙ ap (spread count) names;
        made = made_on host sound sees (key_of host) (identity_of host kept.memory.begun) kept.memory slices force count blocks form.1.0 done.0 (λ r has. subst (λ (s : Site). Contains s.lines r.line) (sym sees) (is.formed r has).1.found.one_of);
        o = is.opened;
        opened = ap (λ (m : Memory). m.opened) is.memory;
        lists = ap (λ (o : Opened). o.table.plan.lists) is.made.is;
        bare = ap (λ (o : Opened). o.table.plan.volumes) is.made.is;
      }
