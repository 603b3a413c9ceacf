-- A boot that found nothing: no replica that it read shows a table, so each that shows one lies on a drive on which a call failed.
use Rattle.std.proofs.Common.{◌≡◌, ◌⊎◌, inl, inr, ℕ, Bool, true, false, ◌&&◌, not, List, [], ◌∷◌, MatchOption, Option, Some, None, Contains, refl, sym, ap, subst}
use Rattle.std.proofs.lemmas.Bool.{or_left, or_right}
use Rattle.mdv_base.specs.DriveSet.{Drives, has_drive}
use Rattle.mdv_base.specs.declared.drive.DriveNo.{DriveNo}
use Rattle.mdv_base.specs.declared.mark.Mark.{Mark}
use Rattle.mdv_databases.specs.Lasting.{HasNoTable}
use Rattle.mdv_databases.proofs.Lasting.{stand_crashed}
use Rattle.mdv_databases.proofs.Nothing.{nothing_told}
use Rattle.mdv_engine_law.specs.Hosts.{key_of}
use Rattle.mdv_engine_law.specs.Line.{HasNoTableOn, IsReadOf, IsSame, contents}
use Rattle.mdv_engine_law.specs.Standing.{StandsAt}
use Rattle.mdv_engine_law.specs.declared.host.Host.{Host}
use Rattle.mdv_name.specs.declared.slice_lines.SliceLine.{SliceLine}
use Rattle.mdv_replica.specs.Form.{gate_of, is_open, shows}
use Rattle.mdv_replica.specs.declared.forms.Gate.TheVariants.{Open}
use Rattle.mdv_replica.specs.declared.replica.Head.{Head}
use Rattle.mdv_replica.specs.declared.replica.Slot.{Slot}
use Rattle.mdv_replica.specs.declared.replica.Slot.TheVariants.{First, Second}
use Rattle.mdv_run_law.proofs.Extents.{SeesOwn}
use Rattle.mdv_shelf.specs.Everywhere.{Image}
use Rattle.mdv_shelf.specs.Failing.{Outcomes}
use Rattle.mdv_shelf.specs.Tale.{Tale}
use Rattle.mdv_shelf.proofs.Everywhere.{everywhere_begun, last_image}
use Rattle.mdv_shown.specs.Sites.{site_of}
use Rattle.mdv_shown.specs.declared.site.Site.{Site}
use Rattle.mdv_shown.proofs.Sites.{law_sites}
use Rattle.mdv_standing.specs.Databases.{log_of}
use Rattle.mdv_standing.specs.Laws.{ShowsNoTable}
use Rattle.mdv_store.specs.Records.{Spells}
use Rattle.mdv_store.specs.declared.booting.BootEnd.{BootEnd}
use Rattle.mdv_store_law.specs.Laws.{restarted}
use Rattle.mdv_store_law.specs.Log.{Lives, is_firm}
use Rattle.mdv_survey.specs.Choice.{IsChoice, IsChoiceAmong}
use Rattle.mdv_survey.specs.Newest.{IsMarked}
use Rattle.mdv_survey.specs.Replica.{IsFoundIn}
use Rattle.mdv_survey.specs.declared.choosing.Choice.TheVariants as chosen
use Rattle.mdv_survey.specs.declared.replica.Newest.{Newest}
use Rattle.mdv_survey.specs.declared.replica.Replica.{Replica}
use Rattle.mdv_survey.specs.declared.replica.Survey.{Survey}
use Rattle.mdv_volumes.specs.History.{History}
use Rattle.mdv_volumes.proofs.Lists.{contains_behind, contains_first, first_or_behind}
use Rattle.mdv_theorem.proofs.Lines.{never_in}

-- a head with an open gate shows a table
pub open_shows : (head : Head) (slot : Slot) (mark : Mark) (bytes : ℕ) → gate_of head slot ≡ Open mark bytes → shows head ≡ true
open_shows head First mark bytes is = or_left (is_open head.first) (is_open head.second) (ap is_open is)
open_shows head Second mark bytes is = or_right (is_open head.first) (is_open head.second) (ap is_open is)

-- of drives that stand with a firm log that isn't about to be deleted some replica shows a table
pub firm_shows : (host : Host) (h : History) (t : Tale) → StandsAt host h t → (log_of h.databases (key_of host)).fate ≡ Lives → is_firm (log_of h.databases (key_of host)) ≡ true → (content : Image) → IsSame content (contents t) → HasNoTableOn host.drives (key_of host) content → ⊥
firm_shows host h t stands lives firm content reads none =
    let same : contents t ≡ content = λ i drive block. reads drive block i in
    let began = stand_crashed host.drives h.databases t (contents t) [] stands.databases (last_image t) in
    let blank : HasNoTable host.drives (key_of host) (restarted (contents t) []) =
    λ identity. everywhere_begun (ShowsNoTable (Spells host.drives) (site_of host.drives (key_of host)) identity) (record { block = contents t; told = [] }) (subst (HasNoTableOn host.drives (key_of host)) (sym same) none identity) in
    let loose = (nothing_told host.drives h.databases (key_of host) (restarted (contents t) []) began blank lives).0 in
    cc (firm, loose)

-- A boot that found nothing: no replica that is found on these drives shows a table, and on each other one that it brings up a call failed.
pub record IsBlind (host : Host) (calls : Outcomes) (content : Image) : Type 0 where
  pub up : ℕ → Bool
  pub failed : (drive : DriveNo) → Contains host.site.drives drive → up drive.0 ≡ false → (calls drive.0).some
  pub none : (r : Replica) → IsFoundIn host.drives host.site content r → up r.line.at.drive.0 ≡ true → shows r.head ≡ false

pub blind_boot : (calls : Outcomes) (host : Host) (content : Image) (up : Drives) {e : BootEnd} (survey : Survey) → IsReadOf calls host content up e survey → IsChoice survey chosen.Empty → IsBlind host calls content
blind_boot calls host content up survey read empty = record {
  up = λ n. has_drive read.calm (record { 0 = n });
  failed = λ drive own off. read.failed drive own off;
  none = λ r found calm. none_marked survey.newest read.survey_is.marked empty r (read.of.all r found (answering (has_drive read.calm r.line.at.drive) (has_drive survey.failed r.line.at.drive) calm (read.none r.line.at.drive calm)));
}
  where
    answering : (a b : Bool) → a ≡ true → b ≡ false → (a && not b) ≡ true
    answering a b one two = λ i. one i && not (two i)

    none_marked : (newest : Option Newest) → IsMarked survey.replicas newest → MatchOption newest (chosen.Empty ≡ chosen.Empty) (λ n. IsChoiceAmong survey.replicas n chosen.Empty) → (r : Replica) → Contains survey.replicas r → shows r.head ≡ false
    none_marked None marked is r has = marked r has
    none_marked (Some n) marked is r has = absurd is

-- a drive of these doesn't pass the test, or all do
pub all_up : (up : ℕ → Bool) (lines : List SliceLine) → ((line : SliceLine) → Contains lines line → up line.at.drive.0 ≡ true) ⊎ ((line : SliceLine) × Contains lines line × (up line.at.drive.0 ≡ false))
all_up up [] = inl (λ line has. absurd (never_in line has))
all_up up (line ∷ lines) = by (up line.at.drive.0) refl (all_up up lines) where
  by : (b : Bool) → up line.at.drive.0 ≡ b → ((other : SliceLine) → Contains lines other → up other.at.drive.0 ≡ true) ⊎ ((other : SliceLine) × Contains lines other × (up other.at.drive.0 ≡ false))
      → ((other : SliceLine) → Contains (line ∷ lines) other → up other.at.drive.0 ≡ true) ⊎ ((other : SliceLine) × Contains (line ∷ lines) other × (up other.at.drive.0 ≡ false))
  by false is rest = inr (line, contains_first line lines, is)
  by true is (inl all) = inl (λ other has. elim (first_or_behind line other lines has) [ inl here ↦ subst (λ (l : SliceLine). up l.at.drive.0 ≡ true) here is | inr there ↦ all other there ])
  by true is (inr one) = inr (one.0, contains_behind line one.0 lines one.1, one.2)

-- a call failed on a drive on which replicas of the host's may lie
abbrev pub HasFallen : Host → Outcomes → Type 0
HasFallen host calls = (line : SliceLine) × Contains host.site.lines line × (calls line.at.drive.0).some

-- Such a boot has read all drives with the site's lines, so that no replica shows a table, or a call failed on one.
pub blind_bare : (host : Host) → SeesOwn host → (calls : Outcomes) (content : Image) → IsBlind host calls content → HasNoTableOn host.drives (key_of host) content ⊎ HasFallen host calls
blind_bare host sees calls content blind = elim (all_up blind.up host.site.lines) [
  | inl all ↦ inl (λ identity line k first head own.
      let r : Replica = record { line = line; number = k; first = first; head = head } in
      let found : IsFoundIn host.drives host.site content r = subst (λ (s : Site). IsFoundIn host.drives s content r) (sym sees) own.found in
      blind.none r found (all line found.one_of))
  | inr one ↦
      let brought = subst (λ (s : Site). Contains s.drives one.0.at.drive) (sym sees) (law_sites.brought host.drives (key_of host) one.0 (subst (λ (s : Site). Contains s.lines one.0) sees one.1)) in
      inr (one.0, one.1, blind.failed one.0.at.drive brought one.2)
]
