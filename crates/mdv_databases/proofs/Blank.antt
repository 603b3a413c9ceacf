-- A boot of a key of which no replica shows a table writes nothing.
use Rattle.std.proofs.Common.{inl, inr, List, sym, ◌∙◌, subst}
use Rattle.std.proofs.lemmas.Bool.{false≢true}
use Rattle.mdv_base.specs.DriveSet.{Drives}
use Rattle.mdv_look.specs.Quiet.{IsQuiet, WritesNothing}
use Rattle.mdv_shelf.proofs.Everywhere.{everywhere_kept, last_image}
use Rattle.mdv_standing.specs.Laws.{ShowsNoTable}
use Rattle.mdv_store.proofs.Reading.{same_identity_is}
use Rattle.mdv_store.specs.Booting.{BootMomentOn, HasShown, IsBootedOn, Writes}
use Rattle.mdv_store.specs.Seats.{seats_area}
use Rattle.mdv_store.specs.declared.booting.BootEnd.{BootEnd}
use Rattle.mdv_store.specs.declared.booting.BootEnd.TheVariants as end
use Rattle.mdv_databases.specs.Below.{Database, Geometry, Identity, Key, Lists, Opened, Seat, Spells, Tale, last, site_of}
use Rattle.mdv_databases.specs.Blank.{BlankBootsGo}
use Rattle.mdv_databases.specs.Booting.{MeetsStale}
use Rattle.mdv_databases.specs.Lasting.{HasNoTable}
use Rattle.mdv_databases.proofs.Meeting.{opens}

module _ (g : Geometry) (key : Key) (t : Tale) (none : HasNoTable g key t) where
  never_shown : (identity : Identity) → HasShown g (site_of g key) identity t → ⊥
  never_shown identity one =
      let r = one.replica in
      false≢true (sym (none identity (last t) (last_image t) r.line r.number r.first r.head (record { found = one.found; of_identity = same_identity_is r.head.master.identity identity one.its })) ∙ one.shown)

  -- whatever drives a boot reads, it meets no stale vote
  pub never_stale : (up : Drives) (all : List Database) → MeetsStale up g all key (last t) → ⊥
  never_stale up all met =
      let read = met.read in
      let s = read.s in
      false≢true (sym (none met.database.identity (last t) (last_image t) s.line s.number s.first s.head (read.own s read.chosen.one_of)) ∙ opens s.head read.slot met.mark read.chosen.bytes read.chosen.gate)

  pub never_open : (up : Drives) (o : Opened) (u : Tale) → IsBootedOn up g (site_of g key) o t u → ⊥
  never_open up o u is = never_shown o.identity is.shown

  module _ (up : Drives) (m : Tale) where
    -- it sits at no place, so it writes none
    unseated : (identity : Identity) (lists : Lists) → Writes up g (site_of g key) identity lists t m → WritesNothing t m
    unseated identity lists writes = elim writes.shown [
      | inl none_seated ↦ subst (λ (ss : List Seat). IsQuiet (seats_area ss) t m) none_seated writes.within
      | inr one ↦ absurd (never_shown identity one.0)
    ]

    pub never_written : (answer : BootEnd) → BootMomentOn up g (site_of g key) answer t m → WritesNothing t m
    never_written (end.Adopted o) moment = unseated o.identity moment.writes.0 moment.writes.2
    never_written end.Empty moment = moment.quiet
    never_written (end.TwoDatabases a b) moment = moment.quiet
    never_written (end.NoQuorum readable needed) moment = moment.quiet
    never_written (end.Lost active listed) moment = unseated moment.writes.0 moment.writes.1 moment.writes.2
    never_written end.Spent moment = moment.quiet
    never_written end.Memory moment = moment.quiet

    pub still_none : (answer : BootEnd) → BootMomentOn up g (site_of g key) answer t m → HasNoTable g key m
    still_none answer moment identity = everywhere_kept (ShowsNoTable (Spells g) (site_of g key) identity) t m (never_written answer moment).outside (none identity)

pub blank_boots_go : BlankBootsGo
blank_boots_go = record {
  unwritten = λ up g key answer t m none. never_written g key t none up m answer;
  blank = λ up g key answer t m none. still_none g key t none up m answer;
  closed = λ up g key o t u none. never_open g key t none up o u;
  stale = λ up g all key t none. never_stale g key t none up all;
}
