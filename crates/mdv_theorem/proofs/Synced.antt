-- Over the lines of a run by which no call failed on a drive it stays steady.
use Rattle.std.proofs.Common.{◌≡◌, ℕ, ◌+◌, ◌≤◌, true, Contains, List, length, length-append, Some, sym, subst, arith}
use Rattle.mdv_base.specs.Causes.{Rose}
use Rattle.mdv_base.specs.declared.drive.DriveNo.{DriveNo}
use Rattle.mdv_base.proofs.Causes.{rose_of_once, rose_within}
use Rattle.mdv_engine_law.specs.Line.{Memory}
use Rattle.mdv_engine_law.specs.Standing.{is_steady}
use Rattle.mdv_engine_law.specs.declared.answer.Answer.{Answer}
use Rattle.mdv_engine_law.specs.declared.host.Host.{Host}
use Rattle.mdv_port.specs.Script.{Script, at_end, line, spent, too_long}
use Rattle.mdv_run_law.specs.Run.{At, Counts, IsSaid, IsShown, LineTold, LinesTold, NextLine, Stretch, drive_failures, no_line, one_more}
use Rattle.mdv_shelf.specs.Moments.{IsSince}
use Rattle.mdv_shelf.specs.Story.{Moment, Story, marked, tale_of}
use Rattle.mdv_shelf.specs.Tale.{Tale}
use Rattle.mdv_volumes.specs.History.{History}
use Rattle.mdv_theorem.proofs.Come.{HasMetNothing}
use Rattle.mdv_theorem.proofs.Settled.{line_steady}
use Rattle.mdv_theorem.proofs.Steps.{next_rises}
use Rattle.mdv_theorem.proofs.Sure.{IsSureAt, since_last, sure_on}

-- the moments show the place, by a point behind which no more than so much was told
abbrev pub IsShownBy : Stretch → ℕ → At → Type 0
IsShownBy stretch total at = (bytes : ℕ) × (piece : ℕ) × IsShown stretch bytes piece at × (bytes + piece ≤ total)

pub lines_shown : (host : Host) (stretch : Stretch) (bytes : ℕ) (now at : At) (front : List ℕ) → LinesTold host stretch bytes now front at → IsShownBy stretch bytes now → IsShownBy stretch (bytes + length front) at
lines_shown host stretch bytes now at front (no_line n there) (b, p, shown, within) = (b, p, shown, omega (arith, within))
lines_shown host stretch bytes now at front (one_more n there mid end piece left some told is_shown lines) shown =
    let on = lines_shown host stretch (bytes + length piece) mid at left lines (bytes, length piece, is_shown, omega arith) in
    (on.0, on.1, on.2, (let within = on.3 in let both = length-append piece left in omega (arith, within, both)))

module _ (host : Host) (start : Counts) (m : Moment) (stretch : Stretch) (drive : ℕ) where
  line_rises : (now mid : At) (piece : List ℕ) → LineTold host now piece mid → now.counts.drives drive ≤ mid.counts.drives drive
  line_rises now mid piece told = next_rises host start m now.counts mid.counts now.kept mid.kept now.script mid.script told.answer told.comes drive

  -- on no drive fewer calls have failed behind lines
  pub lines_rise : (bytes : ℕ) (now at : At) (front : List ℕ) → LinesTold host stretch bytes now front at → now.counts.drives drive ≤ at.counts.drives drive
  lines_rise bytes now at front (no_line n there) = omega arith
  lines_rise bytes now at front (one_more n there mid end piece left some told shown lines) =
      let first = line_rises now mid piece told in
      let more = lines_rise (bytes + length piece) mid at left lines in
      omega (arith, first, more)

module _ (host : Host) (start : Counts) (m : Moment) (stretch : Stretch) (drive : DriveNo) (own : Contains host.site.drives drive) (script : Script) (h : History) (t : Tale) (none : HasMetNothing host script h t m.tale) where
  -- the story has come there, and the drive is steady
  pub record IsThere (at : At) : Type 0 where
    pub sure : IsSureAt host script h t at
    pub steady : is_steady at.kept.memory drive.0 ≡ true

  next_steady : (now mid : At) (answer : Answer) (script more : Script) → NextLine host now.counts now.kept script answer mid.counts mid.kept more → IsSaid answer → ((drive_failures now.counts mid.counts drive.0).some → ⊥) → is_steady now.kept.memory drive.0 ≡ true
      → is_steady mid.kept.memory drive.0 ≡ true
  next_steady now mid answer at_end more comes said calm steady = absurd comes
  next_steady now mid answer (spent n c) more comes said calm steady = absurd comes
  next_steady now mid answer (too_long rest) more comes said calm steady = subst (λ (k : Memory). is_steady k drive.0 ≡ true) (sym comes.3.1.memory) steady
  next_steady now mid answer (line text rest) more comes said calm steady = line_steady host drive own (drive_failures now.counts mid.counts) calm answer now.kept mid.kept said steady text comes.2

  -- lines by which no call failed on it
  pub lines_steady : (bytes : ℕ) (now at : At) (front : List ℕ) → LinesTold host stretch bytes now front at → ((u : Story) → at.story ≡ Some u → IsSince (tale_of u) m.tale) → start.drives drive.0 ≤ now.counts.drives drive.0
      → (Rose (start.drives drive.0) (at.counts.drives drive.0) → ⊥) → IsThere now → IsThere at
  lines_steady bytes now at front (no_line n same) since low calm there = there
  lines_steady bytes now at front (one_more n same mid end piece left some told shown lines) since low calm there =
      let rises = line_rises host start m stretch drive.0 now mid piece told in
      let on = lines_rise host start m stretch drive.0 (bytes + length piece) mid at left lines in
      let behind = (sure_on host script h t m.tale none now mid piece told there.sure (λ v is. since_last host stretch (bytes + length piece) mid at left m.tale lines since v is)).next in
      let unfailed : (drive_failures now.counts mid.counts drive.0).some → ⊥ = λ once.
      calm (rose_within (start.drives drive.0) (now.counts.drives drive.0) (mid.counts.drives drive.0) (at.counts.drives drive.0) low on (rose_of_once (now.counts.drives drive.0) (mid.counts.drives drive.0) once)) in
      let steady = next_steady now mid told.answer now.script mid.script told.comes told.said unfailed there.steady in
      lines_steady (bytes + length piece) mid at left lines since (omega (arith, low, rises)) calm (record { sure = behind; steady = steady })

-- the story goes on over lines
pub lines_story : (host : Host) (stretch : Stretch) (bytes : ℕ) (now at : At) (front : List ℕ) → LinesTold host stretch bytes now front at → (s : Story) → now.story ≡ Some s → (u : Story) × (at.story ≡ Some u)
lines_story host stretch bytes now at front (no_line n there) s is = (s, is)
lines_story host stretch bytes now at front (one_more n there mid end piece left some told shown lines) s is =
    let goes = told.passage.in_time.drives 0 s is in
    lines_story host stretch (bytes + length piece) mid at left lines (marked s goes.0) goes.1
