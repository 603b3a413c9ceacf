-- What a read and a write of a volume's blocks come to.
use Rattle.std.proofs.Common.{◌≡◌, inl, inr, ◌<◌, ◌≤◌, ℕ, List, length, Option, Some, IfSome, Err, refl, sym, ap, ◌∙◌, subst, arith}
use Rattle.mdv_engine_law.proofs.Keeping.{are_put, may_be_put}
use Rattle.mdv_engine_law.proofs.Knowing.{some_more}
use Rattle.mdv_engine_law.proofs.Plain.{fault_plain, memory_plain, refusal_plain}
use Rattle.mdv_engine_law.proofs.Staying.{stays_in_volume}
use Rattle.mdv_engine_law.proofs.Transfer.{writing_moment, wrote_blocks, wrote_some}
use Rattle.mdv_engine_law.proofs.Turning.{carry_none, refused_none}
use Rattle.mdv_engine_law.specs.Answers.{accepted, refusing}
use Rattle.mdv_engine_law.specs.Commands as came
use Rattle.mdv_engine_law.specs.Commands.{TakesMemory, blame_of}
use Rattle.mdv_engine_law.specs.Line.{Ask, Stays, ToDo}
use Rattle.mdv_engine_law.specs.Refusals.{refusal_of}
use Rattle.mdv_engine_law.specs.Replies.{Blame, HasAnswerCause}
use Rattle.mdv_shelf.proofs.Moments.{ends_both, moments_end, moments_none, moments_weaker}
use Rattle.mdv_shelf.specs.Shelves.{AtEachTale, AtEnd, DriveFailures}
use Rattle.mdv_shelf.specs.declared.shelf.Shelf.{Ghosts}
use Rattle.mdv_words.specs.declared.written.Written.{Written}
use Rattle.mdv_engine.specs.Below.{Answer, AreCalm, AreOnDisk, CameTo, CarriedTo, CarryMoment, Command, Ends, Host, IoFault, IsOfGeometry, IsPlain, IsReady, Knows, Memory, Moments, Opened, OutOfMemory, Outcomes, Read, Refusal, Rewriting, Tale, VolId, Write, Wrote, blocks_of, kept_at, key_of}
use Rattle.mdv_engine.specs.declared.engine.Engine.{Engine}
use Rattle.mdv_engine.specs.Ends.{ArePut, ArePutting, AreTorn, AreWritten, HasAnswered, OnSteady}
use Rattle.mdv_engine.specs.Engine.{FailedBlocks, FailedWrite, HasReadCause, IsHeldBy, IsWell, case_at}
use Rattle.mdv_engine.specs.Writing.{HasWriteCause, HasWriteCounts, IsFree}
use Rattle.mdv_engine.proofs.Ending.{refused_answer}
use Rattle.mdv_engine.proofs.Judged.{judged_no_fault, judged_said, transfer_judged}
use Rattle.mdv_engine.proofs.Written.{counted_same, written_same}

-- a line that left all as it was
module _ (host : Host) (ask : Ask) (memory : Memory) (a b : Option Tale) (same : b ≡ a) where
  pub moments_still : Moments (CarryMoment host ask memory) a b
  moments_still = moments_none (CarryMoment host ask memory) a b same (carry_none host ask memory)

  pub refused_carried : (r : Refusal) → Ends (CarriedTo host ask memory (refusing r) memory) a b
  refused_carried r t start = (t, same ∙ start, refused_none host ask memory r t)

-- all is as it was
still : (memory : Memory) (t : Tale) → Stays (kept_at memory t) (kept_at memory t)
still memory t = record { memory = refl; content = λ drive block. refl }

module _ (host : Host) (memory : Memory) (volume : VolId) (at count : ℕ) where
  -- a read that isn't told
  pub unread_line : (calls : Outcomes) (t : Tale) (r : Refusal) → HasReadCause calls host memory volume at count r → CameTo calls host (kept_at memory t) (Read volume at count) (refusing r) (kept_at memory t)
  unread_line calls t r (inl is) = came.refused is.0 r is.1 (refl, still memory t)
  unread_line calls t r (inr (inl (of, free, fault))) = came.faulted free (ap refusing fault) (of, still memory t)
  unread_line calls t r (inr (inr (calm, free, want))) = came.wanting calm (ap refusing want) (free, still memory t)

  pub unread_plain : (calls : Outcomes) (r : Refusal) → HasReadCause calls host memory volume at count r → IsPlain r
  unread_plain calls r (inl is) = refusal_plain (record { host = host; memory = memory }) (Read volume at count) r is.1
  unread_plain calls r (inr (inl (of, free, fault))) = subst IsPlain (sym fault) fault_plain
  unread_plain calls r (inr (inr (calm, free, want))) = subst IsPlain (sym want) memory_plain

  -- a call on a drive of the blocks excuses it, and no other
  abbrev pub of_blocks : Outcomes → Blame
  of_blocks calls = record { done = AreCalm calls; none = AreCalm calls; some = FailedBlocks calls host memory volume at count; lost = λ active listed. ⊥ }

  pub unread_cause : (calls : Outcomes) (spends : Type 0) (r : Refusal) → HasReadCause calls host memory volume at count r → HasAnswerCause (of_blocks calls) spends (refusing r)
  unread_cause calls spends r (inl is) = judged_said (of_blocks calls) spends r (transfer_judged host memory.opened volume at count r is.1) is.0
  unread_cause calls spends r (inr (inl (of, free, fault))) = subst (λ (x : Refusal). HasAnswerCause (of_blocks calls) spends (refusing x)) (sym fault) of
  unread_cause calls spends r (inr (inr (calm, free, want))) = subst (λ (x : Refusal). HasAnswerCause (of_blocks calls) spends (refusing x)) (sym want) calm

-- a write of one block, or of many
module _ {S : Type 0} (shelf : Ghosts S) (old new : S) (v : Engine) (ready : IsReady v.host (shelf.sizes old)) (well : IsWell v.host v.state) (volume : VolId) (at : ℕ) (what : Written) (some : 1 ≤ length (blocks_of what)) (after : Engine) where
  abbrev calls : Outcomes
  calls = DriveFailures shelf old new

  abbrev blocks : List (List ℕ)
  blocks = blocks_of what

  abbrev wrote : Ask
  wrote = ToDo (Wrote (key_of v.host) volume at blocks)

  abbrev command : Command
  command = Write volume at what

  listed : IfSome v.state.opened (λ o. IsOfGeometry v.host.drives o.table)
  listed = some_more v.state.opened (IsHeldBy v.host) (λ (o : Opened). IsOfGeometry v.host.drives o.table) (λ o held. held.of_geometry) well.database

  positive : 0 < length blocks
  positive = omega (arith, some)

  -- what it comes to, and leads to
  abbrev Line : Answer → Engine → Type 0
  Line answer next = AtEnd shelf (λ t u. Knows v.host v.state t → CameTo calls v.host (kept_at v.state t) command answer (kept_at next.state u)) old new

  abbrev Carried : Answer → Engine → Type 0
  Carried answer next = AtEnd shelf (CarriedTo v.host wrote v.state answer next.state) old new

  module _ (putting : ArePutting shelf old new v volume at blocks) where
    pub write_moments : AtEachTale shelf (CarryMoment v.host wrote v.state) old new
    write_moments = moments_weaker (Rewriting putting.map at blocks) (CarryMoment v.host wrote v.state) (shelf.tale old) (shelf.tale new)
        (λ t m rewriting. writing_moment v.host (shelf.sizes old) ready v.state volume at putting.map blocks positive putting.there t m rewriting
        (stays_in_volume v.host (shelf.sizes old) ready v.state volume at (length blocks) putting.map putting.there listed t m rewriting.outside)) putting.moments

    rewritten : AtEnd shelf (Rewriting putting.map at blocks) old new
    rewritten = moments_end (Rewriting putting.map at blocks) (shelf.tale old) (shelf.tale new) putting.moments

  -- they are on the disk
  module _ (put : ArePut shelf old new v volume at blocks after) where
    both : AtEnd shelf (λ t u. Rewriting put.putting.map at blocks t u × AreOnDisk put.putting.map at blocks u) old new
    both = ends_both (Rewriting put.putting.map at blocks) (λ t u. AreOnDisk put.putting.map at blocks u) _ (shelf.tale old) (shelf.tale new) (λ t u one other. (one, other)) (rewritten put.putting) put.settled

    pub written_line : IsFree v.host v.state volume at what → Line accepted v
    written_line free t start = (let end = both t start in (end.0, end.1, λ known. came.done free.0 (put.calm, put.putting.map, put.putting.there, refl, refl, are_put t end.0 put.putting.map at blocks end.2.0 end.2.1.read)))

    pub written_carried : Carried accepted v
    written_carried t start = (let end = both t start in (end.0, end.1, wrote_blocks v.host (shelf.sizes old) ready v.state volume at put.putting.map blocks positive put.putting.there t end.0 end.2.0 end.2.1))

  -- what is left where it was refused
  pub record IsUnwritten (r : Refusal) (next : Engine) : Type 0 where
    pub moments : AtEachTale shelf (CarryMoment v.host wrote v.state) old new
    pub line : Line (refusing r) next
    pub carried : Carried (refusing r) next
    pub answer : HasAnswered calls command v (refusing r) next

  -- calls on drives of the blocks failed, which are unsteady then
  module _ (torn : AreTorn shelf old new v volume at blocks after) where
    abbrev on_drives : FailedWrite calls v.host v.state volume at (length blocks)
    on_drives = record { map = torn.putting.map; there = torn.putting.there; failing = torn.failing; some = torn.have.some; on = torn.have.on; failed = torn.have.failed; calm = torn.have.calm }

    torn_line : IsFree v.host v.state volume at what → Line (refusing IoFault) after
    torn_line free t start = (let end = rewritten torn.putting t start in (end.0, end.1, λ known. came.faulted free.0 refl (on_drives, torn.unsettled, may_be_put t end.0 torn.putting.map at blocks end.2)))

    kept_on_others : AtEnd shelf (λ t u. Rewriting torn.putting.map at blocks t u × OnSteady torn.failing torn.putting.map at (length blocks) u) old new
    kept_on_others = ends_both (Rewriting torn.putting.map at blocks) (λ t u. OnSteady torn.failing torn.putting.map at (length blocks) u) _ (shelf.tale old) (shelf.tale new) (λ t u one other. (one, other)) (rewritten torn.putting) torn.others

    torn_carried : Carried (refusing IoFault) after
    torn_carried t start =
        (let end = kept_on_others t start in
        (end.0, end.1, wrote_some v.host (shelf.sizes old) ready v.state volume at torn.putting.map blocks positive torn.putting.there t end.0 end.2.0 after.state torn.failing torn.have.on end.2.1 torn.unsettled))

    torn_answer : HasAnswered calls command v (refusing IoFault) after
    torn_answer = record {
      plain = fault_plain;
      cause = on_drives;
      lost = λ active listed is. absurd (cc (is));
      free = λ on has closed. absurd on;
      few = inr tt;
      host = torn.host;
      well = λ on. subst (IsWell v.host) (sym torn.unsettled.beside) (record { database = well.database; entries = well.entries });
      begun = (let same = ap (λ (m : Memory). m.begun) torn.unsettled.beside in omega (arith, same));
    }

    torn_is : IsFree v.host v.state volume at what → IsUnwritten IoFault after
    torn_is free = record { moments = write_moments torn.putting; line = torn_line free; carried = torn_carried; answer = torn_answer }

  -- no call was made
  module _ (r : Refusal) (calm : AreCalm calls) (same : new ≡ old) (judged : HasAnswerCause (blame_of calls v.host v.state command) ⊥ (refusing r)) (plain : IsPlain r) (line : (t : Tale) → CameTo calls v.host (kept_at v.state t) command (refusing r) (kept_at v.state t)) where
    still_is : IsUnwritten r v
    still_is = record {
      moments = moments_still v.host wrote v.state (shelf.tale old) (shelf.tale new) (ap shelf.tale same);
      line = λ t start. (t, ap shelf.tale same ∙ start, λ known. line t);
      carried = refused_carried v.host wrote v.state (shelf.tale old) (shelf.tale new) (ap shelf.tale same) r;
      answer = refused_answer calls command v well r judged plain (inr tt);
    }

  -- where it is refused, or memory was wanting
  refused_is : (r : Refusal) → AreCalm calls → refusal_of (case_at v) command ≡ Some r → new ≡ old → IsUnwritten r v
  refused_is r calm is same = still_is r calm same (judged_said (blame_of calls v.host v.state command) ⊥ r (transfer_judged v.host v.state.opened volume at (length blocks) r is) calm) (refusal_plain (case_at v) command r is) (λ t. came.refused calm r is (refl, still v.state t))

  wanting_is : TakesMemory what → AreCalm calls → IsFree v.host v.state volume at what → new ≡ old → IsUnwritten OutOfMemory v
  wanting_is takes calm free same = still_is OutOfMemory calm same calm memory_plain (λ t. came.wanting calm refl (takes, free.0, still v.state t))

  -- so it is, or calls failed
  pub unwritten : (r : Refusal) → HasWriteCause calls v.host v.state volume at what r → AreWritten shelf old new v volume at blocks (Err r) after → HasWriteCounts shelf old new v volume at (length blocks) (Err r) → IsUnwritten r after
  unwritten r (inl (calm, is)) written counted =
      let judged = transfer_judged v.host v.state.opened volume at (length blocks) r is in
      let never = judged_no_fault r judged in
      subst (λ (e : Engine). IsUnwritten r e) (sym (written_same shelf old new v volume at blocks after r never written)) (refused_is r calm is (counted_same shelf old new v volume at (length blocks) r never counted))
  unwritten r (inr (inl (of, free, fault))) written counted =
      subst (λ (x : Refusal). IsUnwritten x after) (sym fault) (torn_is (subst (λ (x : Refusal). AreWritten shelf old new v volume at blocks (Err x) after) fault written) free)
  unwritten r (inr (inr (takes, calm, free, want))) written counted =
      subst (λ (x : Refusal). IsUnwritten x after) (sym want)
      (subst (λ (e : Engine). IsUnwritten OutOfMemory e) (sym (subst (λ (x : Refusal). AreWritten shelf old new v volume at blocks (Err x) after) want written))
      (wanting_is takes calm free (subst (λ (x : Refusal). HasWriteCounts shelf old new v volume at (length blocks) (Err x)) want counted)))
