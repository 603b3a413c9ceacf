-- A database, and a volume that was shown to be there, stay: they are open behind any further lines of the host, where enough drives answered.
use Rattle.std.proofs.Common.{◌≡◌, inl, inr, ℕ, List, [], ◌∷◌, ◌++◌, Some, Contains, refl, sym, ap, subst, append_assoc}
use Rattle.std.proofs.lemmas.List.Elements.{Contains-append_left, Contains-append_right}
use Rattle.mdv_base.specs.Refusal.{number_of}
use Rattle.mdv_base.specs.declared.drive.SliceName.{SliceName}
use Rattle.mdv_engine_law.specs.Answers.{accepted}
use Rattle.mdv_engine_law.specs.Line.{contents}
use Rattle.mdv_engine_law.specs.Replies.{refusal_line, text_of}
use Rattle.mdv_name.specs.declared.geometry.Geometry.{Geometry}
use Rattle.mdv_port.specs.Script.{Script}
use Rattle.mdv_run_law.specs.Below.{Host, IsSound, VolId}
use Rattle.mdv_run_law.specs.Lives.{IsHistoryOf, Ran, host_of}
use Rattle.mdv_run_law.specs.Run.{started}
use Rattle.mdv_store.specs.Opened.{Opened}
use Rattle.mdv_words.specs.declared.command.Command.{Command}
use Rattle.mdv_words.specs.declared.command.Command.TheVariants.{AddListed, AddPlaces, Alter, DropPlaces, Print, Read, Write}
use Rattle.mdv_theorem.specs.Exchanges.{Exchange, IsOn, exchanges_by}
use Rattle.mdv_theorem.specs.Observed.{HaveAnswered, MostAnswered, VolumesStay}
use Rattle.mdv_theorem.specs.Running.{AllAnswered, Running}
use Rattle.mdv_theorem.specs.Words.{HasDatabase, IsMadeBy, IsMadeOn, IsThere, MayBecome, NeedsDatabase, spread}
use Rattle.mdv_theorem.proofs.Accords.{Accords, AtShown, ClosedAt, accords_idle, accords_shown, accords_steps, lists_idle}
use Rattle.mdv_theorem.proofs.Adopted.{IsBlind}
use Rattle.mdv_theorem.proofs.Aside.{IsAside, commanded, told_aside}
use Rattle.mdv_theorem.proofs.Clean.{start_by}
use Rattle.mdv_theorem.proofs.Ends.{taken_away}
use Rattle.mdv_theorem.proofs.Lines.{never_in}
use Rattle.mdv_theorem.proofs.Parting.{Parts, in_first, in_second, parts}
use Rattle.mdv_theorem.proofs.Seeing.{all_first, all_never, most_open, most_sees}
use Rattle.mdv_theorem.proofs.Starting.{Starts, starts, unopened}
use Rattle.mdv_theorem.proofs.Staying.{HasIt, IsOpenWith, first, last}
use Rattle.mdv_theorem.proofs.Steps.{Between, EachSo, Failed, Reached, reached_from, told_once}
use Rattle.mdv_theorem.proofs.Tables.{boot_opens, open_keeps, opened_steps}

-- what is done with a volume is done with its database
on_needs : (volume : VolId) (command : Command) → IsOn volume command → NeedsDatabase command
on_needs volume (AddPlaces slices force count blocks) on = tt
on_needs volume (AddListed number force) on = tt
on_needs volume (DropPlaces slices force) on = absurd on
on_needs volume (Alter alteration) on = tt
on_needs volume (Read other at count) on = tt
on_needs volume (Write other at what) on = tt
on_needs volume (Print names) on = tt

-- so where a volume is there its database is
pub has_database : (volume : VolId) (lines : List Exchange) → IsThere volume lines → HasDatabase lines
has_database volume lines is = record {
  shown = is.shown;
  command = is.shows.command;
  before = is.before;
  behind = is.behind;
  parts = is.parts;
  asks = is.shows.asks;
  needs = on_needs volume is.shows.command is.shows.on;
  granted = is.shows.granted;
  stays = λ one has takes. is.stays one has (taken_away volume one takes);
}

-- what none of these lines did none of the first ones did, nor of those behind
module _ {Does : Exchange → Type 0} (all front rest : List Exchange) (is : all ≡ front ++ rest) (stays : (one : Exchange) → Contains all one → Does one → ⊥) where
  front_stays : (one : Exchange) → Contains front one → Does one → ⊥
  front_stays one has = stays one (subst (λ (l : List Exchange). Contains l one) (sym is) (Contains-append_left front rest one has))

  behind_stays : (one : Exchange) → Contains rest one → Does one → ⊥
  behind_stays one has = stays one (subst (λ (l : List Exchange). Contains l one) (sym is) (Contains-append_right front rest one has))

module _ (drives : Geometry) (name : List ℕ) (before : List Ran) (script : Script) (sound : IsSound drives) (of_table : Contains drives.hosts name) (run : Running drives name before script) (starts_so : Starts run) (here : List Exchange) (one : Exchange) (at : Reached run starts_so.of here one) where
  abbrev host : Host
  host = host_of drives name run.fresh

  abbrev of : IsHistoryOf drives name run.made before run.t.tale
  of = starts_so.of

  abbrev old : List Exchange
  old = exchanges_by name before

  abbrev lines : List Exchange
  lines = old ++ here

  abbrev from : Between host
  from = first drives name before script sound of_table run of here one at

  abbrev to : Between host
  to = last drives name before script sound of_table run of here one at

  abbrev IsOpen : Type 0
  IsOpen = (o : Opened) × (at.kept.memory.opened ≡ Some o)

  closed : EachSo host (Failed run) ClosedAt old from to here at.steps
  closed = unopened drives name before script of_table run of here one at

  accords_first : Accords drives name old from.sure.history
  accords_first = accords_idle drives name run.fresh sound old (start_by run of) from.sure.history at.begun starts_so.accords

  -- what the lines show is so where the run came to this one
  accords_now : Accords drives name lines at.sure.history
  accords_now = accords_steps drives name run.fresh sound (Failed run) old from to here accords_first at.steps closed

  -- the boot at the run's start opens a database, if it isn't blind
  first_opens : (IsBlind host at.booted (contents run.t.tale) → ⊥) → (o : Opened) × (at.first.memory.opened ≡ Some o)
  first_opens never = boot_opens host at.booted (started (contents run.t.tale)) at.first accepted at.boots tt never

  -- behind a line before this one
  shown_at : (front rest : List Exchange) (shown : Exchange) → here ≡ front ++ shown ∷ rest → AtShown drives name run.fresh sound (Failed run) old front rest shown to
  shown_at front rest shown is = accords_shown drives name run.fresh sound (Failed run) old front rest shown from to here is accords_first at.steps closed

  -- where each drive answered
  module _ (calm : AllAnswered run) (has : HasDatabase lines) where
    all_open : IsOpen
    all_open = by (parts old here has.before has.behind has.shown has.parts) where
      by : Parts old here has.before has.behind has.shown → IsOpen
      by (in_first rest is behind) =
          let are = starts_so.accords.firm (record { shown = has.shown; command = has.command; before = has.before; behind = rest; parts = is; asks = has.asks; needs = has.needs; granted = has.granted; stays = front_stays has.behind rest here behind has.stays }) in
          let opens = first_opens (all_first drives name before script sound run calm (start_by run of) of.stands are at.booted at.unbooted) in
          opened_steps host (Failed run) from to here opens.0 (behind_stays has.behind rest here behind has.stays) (all_never drives name before script sound run calm from) opens.1 at.steps
      by (in_second front all is) =
          let way = shown_at front has.behind has.shown is in
          let opens = way.opens has.command has.needs has.asks has.granted in
          opened_steps host (Failed run) way.mid to has.behind opens.0 has.stays (all_never drives name before script sound run calm way.mid) opens.1 way.after

  -- or most of each list of places that the lines may have come to
  module _ (made : IsMadeOn lines) (most : (slices : List SliceName) → MayBecome drives name made.behind (spread made.count made.slices) slices → MostAnswered run slices) where
    abbrev slices : List SliceName
    slices = spread made.count made.slices

    most_stays : IsOpen
    most_stays = by (parts old here made.before made.behind made.made made.parts) where
      by : Parts old here made.before made.behind made.made → IsOpen
      by (in_first rest is behind) =
          let lie = starts_so.accords.lists (record { slices = made.slices; count = made.count; made = made.made; before = made.before; behind = rest; parts = is; by = made.by; stays = front_stays made.behind rest here behind made.stays }) in
          most_open drives name before script sound run made.behind slices most from to rest here behind (behind_stays made.behind rest here behind made.stays) (lists_idle drives name run.fresh sound slices rest (start_by run of) from.sure.history at.begun lie)
          (λ untold. first_opens (most_sees drives name before script sound run made.behind slices most rest here behind untold (start_by run of) run.t.tale of.stands lie (contents run.t.tale) (λ drive block. refl) at.booted at.unbooted)) at.steps
      by (in_second front all is) =
          let way = shown_at front made.behind made.made is in
          let opens = way.opens (AddPlaces made.slices made.by.force made.count made.by.blocks) tt made.by.asks made.by.told in
          let now : IsMadeOn (old ++ (front ++ made.made ∷ [])) = record {
            slices = made.slices;
            count = made.count;
            made = made.made;
            before = old ++ front;
            behind = [];
            parts = sym (append_assoc old front (made.made ∷ []));
            by = subst (λ (l : List Exchange). IsMadeBy l made.made made.slices made.count) all made.by;
            stays = λ other none. absurd (never_in other none);
          } in
          most_open drives name before script sound run made.behind slices most way.mid to [] made.behind refl made.stays (way.accords.lists now) (λ untold. opens) way.after

  -- So a database is open that lines show, where enough drives answered.
  pub database_open : HaveAnswered run lines → HasDatabase lines → (o : Opened) × (at.kept.memory.opened ≡ Some o)
  database_open (inl calm) has = all_open calm has
  database_open (inr (made, most)) has = most_stays made most

  -- And a volume that they show is in its table.
  pub it_stays : HaveAnswered run lines → (volume : VolId) → IsThere volume lines → IsOpenWith host (HasIt host.drives volume) at.kept
  it_stays answered volume is =
      let opens = database_open answered (has_database volume lines is) in
      record { o = opens.0; opened = opens.1; so = open_keeps host (HasIt host.drives volume) to opens.0 (accords_now.there volume is) opens.1 }

pub volumes_stay : VolumesStay
volumes_stay drives name before script of_table run one earlier volume command answered calm is_there asks about refusal told =
    let sound = run.life.fair in
    let starts_so = starts drives name before script of_table run in
    let at = reached_from run starts_so.of answered.here answered.later one (refusal_line refusal) answered.is told in
    let there = it_stays drives name before script sound of_table run starts_so answered.here one at (subst (HaveAnswered run) answered.behind calm) volume (subst (IsThere volume) answered.behind is_there) in
    let its_host = host_of drives name run.fresh in
    let aside : IsAside refusal = told_aside at.calls its_host at.kept at.next there.o there.opened volume there.so.0 there.so.1 one command asks about at.answer at.said refusal
    (told_once one (text_of at.answer) (refusal_line refusal) at.told told) (commanded at.calls its_host at.kept at.next one.text command at.answer asks at.comes) in
    (λ no_database. aside.0 (ap number_of no_database), λ no_volume. aside.1 (ap number_of no_volume))
