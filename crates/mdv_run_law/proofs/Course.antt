-- Where nothing failed and memory was never wanting, a run has one course.
use Rattle.std.proofs.Common.{◌≡◌, inl, inr, ℕ, Bool, List, [], ◌∷◌, ◌++◌, length, ◌+◌, ◌≤◌, Contains, refl, sym, ◌∙◌, ap, subst, append_assoc, arith}
use Rattle.std.proofs.lemmas.List.Elements.{Contains-append_right}
use Rattle.mdv_base.specs.declared.refusal.Refusal.TheVariants.{IoFault}
use Rattle.mdv_base.proofs.Causes.{rose_of_once, rose_within}
use Rattle.mdv_listing.proofs.Lines.{listings_are_lines}
use Rattle.mdv_status.specs.Values.{printed_reply}
use Rattle.mdv_run_law.specs.Below.{Memory, Entry, AreInForm, Image, Refusal, BadLine, OutOfMemory, TooMany, Script, at_end, spent, too_long, line, replies_in, Command, AddListed, AddPlaces, Alter, DropPlaces, Print, Read, Write, Boot, Line, Answer, Host, Kept, CameTo, ComesTo, IsRebooted, IsPlain, Spells, IsPlainAnswer, IsReply, meant, refusal_line}
use Rattle.mdv_words.specs.Line as words
use Rattle.mdv_engine_law.specs.declared.answer.Answer.TheVariants.{Said, Over as Ends}
use Rattle.mdv_engine_law.specs.declared.answer.Ended.{Ended}
use Rattle.mdv_engine_law.specs.declared.answer.Ended.TheVariants as ended
use Rattle.mdv_engine_law.specs.declared.answer.Outcome.TheVariants as outcome
use Rattle.mdv_engine_law.specs.Answers.{accepted, refusing}
use Rattle.mdv_engine_law.specs.Commands as came
use Rattle.mdv_engine_law.specs.Commands.{Effect, IsTabRefusal, KeepsTab, case_of}
use Rattle.mdv_shelf.specs.Failing.{Outcomes}
use Rattle.mdv_engine_law.specs.Line.{answered_by}
use Rattle.mdv_store.specs.declared.booting.BootEnd.{BootEnd}
use Rattle.mdv_store.specs.declared.booting.BootEnd.TheVariants as end
use Rattle.mdv_status.specs.Telling.{Said as SaidBytes}
use Rattle.mdv_engine_law.specs.Replies.{text_of}
use Rattle.mdv_engine_law.proofs.Plain.{bad_line_plain, fault_plain, too_long_plain, too_many_plain, memory_plain, refusal_plain, ok_reply, values_are_reply, refusal_reply}
use Rattle.mdv_run_law.specs.declared.status.RunStatus.{RunStatus}
use Rattle.mdv_run_law.specs.declared.status.RunStatus.TheVariants.{NoMemory}
use Rattle.mdv_run_law.specs.Run.{BootsFirst, ChangesPlaces, IsSameMemory, NeverBoots, NextChanges, Counts, RoseTo, RoseCalmly, OnlyReplying, IsUndisturbed, IsSated, Stops, At, NextLine, IsSaid, refused_by, LineTold, LinesTold, Stretch, no_line, one_more, EndsAs, EndsAt, EndsWith, Over, unread, ended as script_ended, broken, Runs, RunsFrom, behind_boot, Progress, IsAnswered, IsLostStatus, IsOfTable, AreOnce, IsSameEnd, OneCourse, started, drive_failures, giving_failed, status_at}
use Rattle.mdv_run_law.proofs.Carrying.{one_answer, same_refusal_of}
use Rattle.mdv_run_law.proofs.Moving.{alike_back, alike_itself, one_text}
use Rattle.mdv_run_law.proofs.Passing.{NoneFailed}
use Rattle.mdv_run_law.proofs.Keeping.{IsSatisfied, One, Same, ok, one_boot, same_back, stays_same}

-- what a line comes to is told in whole replies
module _ (calls : Outcomes) (host : Host) (kept next : Kept) (answer : Answer) where
  pub refused_plain : (r : Refusal) → IsPlain r → answer ≡ refusing r → IsPlainAnswer answer
  refused_plain r plain is = subst IsPlainAnswer (sym is) plain

  ok_plain : answer ≡ accepted → IsPlainAnswer answer
  ok_plain is = subst IsPlainAnswer (sym is) tt

  end_plain : (e : BootEnd) → IsPlainAnswer (answered_by e)
  end_plain (end.Adopted o) = tt
  end_plain end.Empty = tt
  end_plain (end.TwoDatabases a b) = tt
  end_plain (end.NoQuorum readable needed) = tt
  end_plain (end.Lost active listed) = tt
  end_plain end.Spent = tt
  end_plain end.Memory = tt

  booted_plain : IsRebooted calls host kept answer next → IsPlainAnswer answer
  booted_plain is = subst IsPlainAnswer (sym is.answer_is) (end_plain is.end)

  effect_plain : (command : Command) → Effect calls host kept command answer next → IsPlainAnswer answer
  effect_plain (AddPlaces slices force count blocks) is = ok_plain is.0
  effect_plain (AddListed number force) is = absurd is
  effect_plain (DropPlaces slices force) is = ok_plain is.0
  effect_plain (Alter alteration) is = ok_plain is.0
  effect_plain (Read volume at count) is = subst IsPlainAnswer (sym is.6) (inl (record { at = at; blocks = _; is = refl }))
  effect_plain (Write volume at what) is = ok_plain is.3
  effect_plain (Print names) is = (let are = listings_are_lines is.1.table.plan names in subst IsPlainAnswer (sym is.3) (inr (inr (record { lines = are.lines; quiet = are.quiet; is = ap printed_reply are.joined }))))

  came_plain : (command : Command) → CameTo calls host kept command answer next → IsPlainAnswer answer
  came_plain command (came.refused quiet r is left) = refused_plain r (refusal_plain (case_of host kept) command r is) left.0
  came_plain command (came.wanting quiet is left) = refused_plain OutOfMemory memory_plain is
  came_plain command (came.done free effect) = effect_plain command effect
  came_plain command (came.faulted free is fault) = refused_plain IoFault fault_plain is
  came_plain command (came.over end free is gives) = subst IsPlainAnswer (sym is) tt

  tab_plain : (lines : List ℕ) (r : Refusal) → IsTabRefusal lines r → IsPlain r
  tab_plain lines BadLine why = bad_line_plain
  tab_plain lines TooMany why = too_many_plain
  tab_plain lines other why = absurd why

  keeps_plain : (lines : List ℕ) → KeepsTab calls kept lines answer next → IsPlainAnswer answer
  keeps_plain lines (came.entered quiet entries tab is memory same) = subst IsPlainAnswer (sym is) (inr (inl (record { count = length entries; is = refl })))
  keeps_plain lines (came.unfit quiet r why left) = refused_plain r (tab_plain lines r why) left.0
  keeps_plain lines (came.unread quiet is left) = refused_plain OutOfMemory memory_plain is

  line_plain : (spelled : Line) → ComesTo calls host kept spelled answer next → IsPlainAnswer answer
  line_plain Boot is = booted_plain is
  line_plain (words.Tab lines) is = keeps_plain lines is
  line_plain (words.Exec command) is = came_plain (meant kept.memory.entries command) is

  pub answer_plain : (text : List ℕ) → IsAnswered calls host kept text answer next → IsPlainAnswer answer
  answer_plain text (inl (none, quiet, refused)) = refused_plain BadLine bad_line_plain refused.0
  answer_plain text (inr (inl (spelled, is, comes))) = line_plain spelled comes
  answer_plain text (inr (inr (quiet, refused))) = refused_plain OutOfMemory memory_plain refused.0

-- a run that is over so is lost
ended_status : (end : Ended) → IsLostStatus (status_at end)
ended_status (ended.NoQuorum readable needed) = tt
ended_status (ended.TwoDatabases a b) = tt
ended_status (ended.Lost active listed) = tt
ended_status ended.Spent = tt
ended_status ended.Memory = tt

-- want of memory is told as such
told_wanting : (rest : List ℕ) → Contains (replies_in (refusal_line OutOfMemory ++ rest)) (refusal_line OutOfMemory)
told_wanting rest = subst (λ (l : List (List ℕ)). Contains l (refusal_line OutOfMemory)) (sym (ap (λ (s : SaidBytes). s.replies) ((refusal_reply OutOfMemory memory_plain).behind rest))) (0, omega arith, refl)

rest_sated : (reply rest : List ℕ) (status : RunStatus) → IsReply reply → IsSated (reply ++ rest) status → IsSated rest status
rest_sated reply rest status is sated = record {
  replies = λ has. sated.replies (subst (λ (l : List (List ℕ)). Contains l (refusal_line OutOfMemory)) (sym (ap (λ (s : SaidBytes). s.replies) (is.behind rest))) (Contains-append_right (reply ∷ []) (replies_in rest) (refusal_line OutOfMemory) has));
  end = sated.end;
}

-- two ends of a run are the same
abbrev SameEnds : Host → List ℕ → List ℕ → RunStatus → RunStatus → Kept → Kept → Type 0
SameEnds host a b s r k j = (a ≡ b) × (s ≡ r) × ((IsLostStatus s → ⊥) → IsSameEnd host k j)

one_stop : (host : Host) (known also : Kept) (end : RunStatus) (a b : List ℕ) (s r : RunStatus) (k j : Kept) → IsLostStatus end → Stops known end a s k → Stops also end b r j → SameEnds host a b s r k j
one_stop host known also end a b s r k j over first second =
    (first.silent ∙ sym second.silent, first.ended ∙ sym second.ended, λ never. absurd (never (subst IsLostStatus (sym first.ended) over)))

-- no drive had failed more often by the first count
abbrev NoMore : Counts → Counts → Type 0
NoMore a b = (drive : ℕ) → a.drives drive ≤ b.drives drive

-- counts between others
no_more_itself : (a : Counts) → NoMore a a
no_more_itself a drive = omega arith

no_more_on : (a b c : Counts) → NoMore a b → NoMore b c → NoMore a c
no_more_on a b c one other drive = let x = one drive in let y = other drive in omega arith

rose_to_more : (a b c : Counts) → RoseTo a b → RoseTo b c → RoseTo a c
rose_to_more a b c one other = record {
  drives = no_more_on a b c one.drives other.drives;
  source = let x = one.source in let y = other.source in omega arith;
  replies = let x = one.replies in let y = other.replies in omega arith;
}

calmly_rose : (a b : Counts) → RoseCalmly a b → RoseTo a b
calmly_rose a b is = record { drives = is.drives; source = let same = is.source in omega arith; replies = let same = is.replies in omega arith }

calm_within : (a b c d : Counts) → RoseTo a b → RoseTo c d → IsUndisturbed a d → IsUndisturbed b c
calm_within a b c d before behind calm = record {
  drive = λ failed. calm.drive (failed.0, rose_within _ _ _ _ (before.drives failed.0) (behind.drives failed.0) failed.1);
  source = λ rose. calm.source (rose_within _ _ _ _ before.source behind.source rose);
  replies = λ rose. calm.replies (rose_within _ _ _ _ before.replies behind.replies rose);
}

-- drives that never failed failed in no part of the stretch
drives_calm : (a b c d : Counts) → NoMore a b → NoMore c d → IsUndisturbed a d → NoneFailed (drive_failures b c)
drives_calm a b c d before behind calm drive once = calm.drive (drive, rose_within _ _ _ _ (before drive) (behind drive) (rose_of_once _ _ once))

-- nor did a giving
giving_calm : (a b : Counts) → IsUndisturbed a b → giving_failed a b → ⊥
giving_calm a b calm once = calm.replies (rose_of_once _ _ once)

same_counts : (a b : Counts) → b ≡ a → NoMore a b
same_counts a b same drive = let drives = ap (λ (x : Counts). x.drives drive) same in omega arith

no_more_replying : (answer : Answer) (a b : Counts) → OnlyReplying answer a b → NoMore a b
no_more_replying (Said this) a b given = λ drive. (let same = given.drives drive in omega arith)
no_more_replying (Ends end) a b same = same_counts a b same

rose_itself : (a : Counts) → RoseTo a a
rose_itself a = record { drives = no_more_itself a; source = omega arith; replies = omega arith }

module _ (host : Host) where
  next_rose : (now then : Counts) (kept next : Kept) (script rest : Script) (answer : Answer) → NextLine host now kept script answer then next rest → RoseTo now then
  next_rose now then kept next at_end rest answer is = absurd is
  next_rose now then kept next (spent lines bytes) rest answer is = absurd is
  next_rose now then kept next (too_long left) rest answer is = calmly_rose now then is.1
  next_rose now then kept next (line text left) rest answer is = calmly_rose now then is.1

  over_rose : (w : Stretch) (n : ℕ) (end : Counts) (now : At) (told : List ℕ) (status : RunStatus) (last : Kept) → Over host w n end now told status last → NoMore now.counts end
  over_rose w n end now told status last (unread only quiet stops) = λ drive. (let same = only.drives drive in omega arith)
  over_rose w n end now told status last (script_ended how same quiet stops) = same_counts now.counts end same
  over_rose w n end now told status last (broken answer then next left is shown given led with) =
      no_more_on now.counts then end (next_rose now.counts then now.kept next now.script left answer is).drives (no_more_replying answer then end given)

  lines_rose : (w : Stretch) (n : ℕ) (now then : At) (told : List ℕ) → LinesTold host w n now told then → RoseTo now.counts then.counts
  lines_rose w n now then told (no_line bytes at) = rose_itself now.counts
  lines_rose w n now then told (one_more bytes at mid last piece rest some one shown lines) =
      rose_to_more now.counts mid.counts then.counts (next_rose now.counts mid.counts now.kept mid.kept now.script mid.script one.answer one.comes) (lines_rose w (n + length piece) mid then rest lines)

-- an answer that no failure told, and what it was told by
said_text : (answer : Answer) (failed : Type 0) → (failed → ⊥) → IsSaid answer → (next : Kept) (told : List ℕ) (status : RunStatus) (last : Kept) → EndsWith failed answer next told status last → ⊥
said_text (Said this) failed calm said next told status last with = calm with.cause
said_text (Ends end) failed calm said next told status last with = said

pub said_reply : (answer : Answer) → IsPlainAnswer answer → IsSaid answer → IsReply (text_of answer)
said_reply (Said outcome.Ok) plain said = ok_reply
said_reply (Said (outcome.Values text)) plain said = values_are_reply text plain
said_reply (Said (outcome.Refused refusal)) plain said = refusal_reply refusal plain
said_reply (Ends end) plain said = absurd said

-- what is told behind a line of which the rest is told tells whether memory was wanting
line_satisfied : (answer : Answer) (piece rest : List ℕ) (status : RunStatus) → IsSaid answer → piece ≡ text_of answer → IsSated (piece ++ rest) status → IsSatisfied answer
line_satisfied answer piece rest status said text sated = record {
  not_refused = λ is. sated.replies (subst (λ (l : List ℕ). Contains (replies_in (l ++ rest)) (refusal_line OutOfMemory)) (sym (text ∙ ap text_of is)) (told_wanting rest));
  not_wanting = λ is. (let never : IsSaid (Ends ended.Memory) = subst IsSaid is said in never);
}

end_satisfied : (failed : Type 0) → (failed → ⊥) → (answer : Answer) (next : Kept) (told : List ℕ) (status : RunStatus) (last : Kept) → EndsWith failed answer next told status last → IsSated told status → IsSatisfied answer
end_satisfied failed calm answer next told status last with sated = record {
  not_refused = λ is. (let cut : EndsWith failed (refusing OutOfMemory) next told status last = subst (λ (x : Answer). EndsWith failed x next told status last) is with in calm cut.cause);
  not_wanting = λ is. (let stops : EndsWith failed (Ends ended.Memory) next told status last = subst (λ (x : Answer). EndsWith failed x next told status last) is with in sated.end stops.ended);
}

-- two runs in which nothing failed
module _ (host : Host) (content : Image) (has : IsOfTable host) (once : AreOnce host.drives.slices) where
  -- a line of the script may boot
  abbrev MayBoot : Script → Type 0
  MayBoot script = NeverBoots script → ⊥

  -- no line boots where the next one changes the places of an open database
  abbrev Behaves : Memory → Script → Type 0
  Behaves memory script = NextChanges host memory script → NeverBoots script

  -- what the next line of both comes to
  record Next (answer other : Answer) (next also : Kept) (rest left : Script) : Type 0 where
    same : other ≡ answer
    script : left ≡ rest
    plain : IsPlainAnswer answer
    kept : IsSaid answer → Same host has once (MayBoot rest) next also

  one_next : (now then from to : Counts) → NoneFailed (drive_failures now then) → NoneFailed (drive_failures from to) → (n m next also : Kept) (script rest left : Script) → Same host has once (MayBoot script) n m → Behaves n.memory script → (answer other : Answer) → IsSatisfied answer → IsSatisfied other
      → NextLine host now n script answer then next rest → NextLine host from m script other to also left → Next answer other next also rest left
  one_next now then from to calm calm_too n m next also at_end rest left same behaves answer other enough enough_too one two = absurd one
  one_next now then from to calm calm_too n m next also (spent lines bytes) rest left same behaves answer other enough enough_too one two = absurd one
  one_next now then from to calm calm_too n m next also (too_long behind) rest left same behaves answer other enough enough_too one two = record {
    same = two.3.0 ∙ sym one.3.0;
    script = two.0 ∙ sym one.0;
    plain = subst IsPlainAnswer (sym one.3.0) too_long_plain;
    kept = λ heard. subst (λ (x : Script). Same host has once (MayBoot x) next also) (sym one.0) (stays_same host has once (MayBoot behind) n m next also same one.3.1 two.3.1);
  }
  one_next now then from to calm calm_too n m next also (line text behind) rest left same behaves answer other enough enough_too one two =
      let answers = one_answer (drive_failures now then) (drive_failures from to) calm calm_too host has once (MayBoot (line text behind)) (MayBoot behind) (λ boots never. boots never.1) text n m next also answer other (λ boot never. never.0 boot)
      (λ command is changes boots. boots (behaves (command, is, changes)).1) same enough enough_too one.2 two.2 in
      record {
        same = sym answers.0;
        script = two.0 ∙ sym one.0;
        plain = answer_plain (drive_failures now then) host n next answer text one.2;
        kept = λ heard. subst (λ (x : Script). Same host has once (MayBoot x) next also) (sym one.0) (answers.1 heard);
      }

  same_refused : (answer other : Answer) (a b : Bool) → other ≡ answer → a ≡ b → refused_by answer a ≡ refused_by other b
  same_refused answer other a b answers before = (λ i. refused_by (sym answers i) (before i))

  -- where both are between the same lines
  record Beside (n m : At) : Type 0 where
    script : n.script ≡ m.script
    refused : n.refused ≡ m.refused
    kept : Same host has once (MayBoot n.script) n.kept m.kept
    behaves : Behaves n.kept.memory n.script

  one_end : (refused also : Bool) (script left : Script) (s r : RunStatus) → refused ≡ also → script ≡ left → EndsAs refused script s → EndsAs also left r → s ≡ r
  one_end refused also script left s r before scripts one other =
      by script one (subst (λ (x : Script). EndsAs refused x r) (sym scripts) (subst (λ (b : Bool). EndsAs b left r) (sym before) other)) where
        by : (x : Script) → EndsAs refused x s → EndsAs refused x r → s ≡ r
        by at_end one other = one ∙ sym other
        by (spent lines bytes) one other = one ∙ sym other
        by (too_long more) one other = absurd one
        by (line text more) one other = absurd one

  -- a script that is over has no next line
  never_next : (refused : Bool) (script left : Script) (s : RunStatus) (now then : Counts) (kept next : Kept) (rest : Script) (answer : Answer) → script ≡ left → EndsAs refused script s → NextLine host now kept left answer then next rest → ⊥
  never_next refused script left s now then kept next rest answer scripts ends is =
      by left (subst (λ (x : Script). EndsAs refused x s) scripts ends) is where
        by : (x : Script) → EndsAs refused x s → NextLine host now kept x answer then next rest → ⊥
        by at_end ends is = is
        by (spent lines bytes) ends is = is
        by (too_long more) ends is = ends
        by (line text more) ends is = ends

  one_with : (failed also : Type 0) → (failed → ⊥) → (also → ⊥) → (answer other : Answer) → other ≡ answer → (next mine : Kept) (a b : List ℕ) (s r : RunStatus) (k j : Kept) → EndsWith failed answer next a s k → EndsWith also other mine b r j → SameEnds host a b s r k j
  one_with failed also calm calm_too answer other same next mine a b s r k j one two = by answer one (subst (λ (x : Answer). EndsWith also x mine b r j) same two) where
    by : (x : Answer) → EndsWith failed x next a s k → EndsWith also x mine b r j → SameEnds host a b s r k j
    by (Said this) one two = absurd (calm one.cause)
    by (Ends end) one two = one_stop host next mine (status_at end) a b s r k j (ended_status end) one two

  module _ (w v : Stretch) (c d : ℕ) (e f : Counts) (s r : RunStatus) (k j : Kept) where
    -- both are over before a line, or with its answer
    one_over : (n m : At) (a b : List ℕ) → Beside n m → IsUndisturbed n.counts e → IsUndisturbed m.counts f → IsSated a s → IsSated b r → Over host w c e n a s k → Over host v d f m b r j → SameEnds host a b s r k j
    one_over n m a b beside calm calm_too sated sated_too (unread only quiet stops) two = absurd (calm.source (rose_of_once _ _ only.source))
    one_over n m a b beside calm calm_too sated sated_too one (unread only quiet stops) = absurd (calm_too.source (rose_of_once _ _ only.source))
    one_over n m a b beside calm calm_too sated sated_too (script_ended how same_counts quiet stops) (script_ended how_too same_too quiet_too stops_too) =
        let same = one_end n.refused m.refused n.script m.script s r beside.refused beside.script how how_too in
        (stops.silent ∙ sym stops_too.silent, same, λ known. subst (λ (x : Kept). IsSameEnd host x j) (sym stops.keeps) (subst (λ (x : Kept). IsSameEnd host n.kept x) (sym stops_too.keeps) (beside.kept.memory, beside.kept.beside)))
    one_over n m a b beside calm calm_too sated sated_too (script_ended how same quiet stops) (broken answer then next left is shown given led with) =
        absurd (never_next n.refused n.script m.script s m.counts then m.kept next left answer beside.script how is)
    one_over n m a b beside calm calm_too sated sated_too (broken answer then next left is shown given led with) (script_ended how same quiet stops) =
        absurd (never_next m.refused m.script n.script r n.counts then n.kept next left answer (sym beside.script) how is)
    one_over n m a b beside calm calm_too sated sated_too (broken answer then next left is shown given led with) (broken other to also behind is_too shown_too given_too led_too with_too) =
        let here = drives_calm n.counts n.counts then e (no_more_itself n.counts) (no_more_replying answer then e given) calm in
        let there = drives_calm m.counts m.counts to f (no_more_itself m.counts) (no_more_replying other to f given_too) calm_too in
        let last = calm_within n.counts then e e (next_rose host n.counts then n.kept next n.script left answer is) (rose_itself e) calm in
        let last_too = calm_within m.counts to f f (next_rose host m.counts to m.kept also m.script behind other is_too) (rose_itself f) calm_too in
        let both = one_next n.counts then m.counts to here there n.kept m.kept next also n.script left behind beside.kept beside.behaves answer other (end_satisfied _ (giving_calm _ _ last) answer next a s k with sated) (end_satisfied _ (giving_calm _ _ last_too) other also b r j with_too sated_too)
        is (subst (λ (x : Script). NextLine host m.counts m.kept x other to also behind) (sym beside.script) is_too) in
        one_with _ _ (giving_calm _ _ last) (giving_calm _ _ last_too) answer other both.same next also a b s r k j with with_too

    -- one is over where the other goes on
    one_stays : (n m then : At) (a piece rest : List ℕ) → Beside n m → IsUndisturbed n.counts e → IsUndisturbed m.counts f → NoMore then.counts f → IsSated a s → IsSated (piece ++ rest) r → Over host w c e n a s k → LineTold host m piece then → ⊥
    one_stays n m then a piece rest beside calm calm_too rose_too sated sated_too (unread only quiet stops) two = calm.source (rose_of_once _ _ only.source)
    one_stays n m then a piece rest beside calm calm_too rose_too sated sated_too (script_ended how same quiet stops) two =
        never_next n.refused n.script m.script s m.counts then.counts m.kept then.kept then.script two.answer beside.script how two.comes
    one_stays n m then a piece rest beside calm calm_too rose_too sated sated_too (broken answer to next left is shown given led with) two =
        let here = drives_calm n.counts n.counts to e (no_more_itself n.counts) (no_more_replying answer to e given) calm in
        let there = drives_calm m.counts m.counts then.counts f (no_more_itself m.counts) rose_too calm_too in
        let last = calm_within n.counts to e e (next_rose host n.counts to n.kept next n.script left answer is) (rose_itself e) calm in
        let both = one_next n.counts to m.counts then.counts here there n.kept m.kept next then.kept n.script left then.script beside.kept beside.behaves answer two.answer (end_satisfied _ (giving_calm _ _ last) answer next a s k with sated) (line_satisfied two.answer piece rest r two.said two.as_text sated_too)
        is (subst (λ (x : Script). NextLine host m.counts m.kept x two.answer then.counts then.kept then.script) (sym beside.script) two.comes) in
        said_text answer _ (giving_calm _ _ last) (subst IsSaid both.same two.said) next a s k with

  -- what the one changes the other does
  places_back : (k j : Memory) → IsSameMemory k j → (command : Command) → ChangesPlaces host j command → ChangesPlaces host k command
  places_back k j same (AddPlaces slices force count blocks) (granted, there) = (sym (same_refusal_of host k j same (AddPlaces slices force count blocks)) ∙ granted, λ none. there (sym same.opened ∙ none))
  places_back k j same (AddListed number force) changes = changes
  places_back k j same (DropPlaces slices force) granted = sym (same_refusal_of host k j same (DropPlaces slices force)) ∙ granted
  places_back k j same (Alter alteration) changes = changes
  places_back k j same (Read volume at count) changes = changes
  places_back k j same (Write volume at what) changes = changes
  places_back k j same (Print names) changes = changes

  changes_back : (k j : Memory) → IsSameMemory k j → (script : Script) → NextChanges host j script → NextChanges host k script
  changes_back k j same at_end changes = changes
  changes_back k j same (spent lines bytes) changes = changes
  changes_back k j same (too_long more) changes = changes
  changes_back k j same (line text more) (command, is, changes) = (command, is, places_back k j same (meant k.entries command) (subst (λ (entries : List Entry). ChangesPlaces host j (meant entries command)) (sym same.entries) changes))

  beside_back : (n m : At) → Beside n m → Beside m n
  beside_back n m is = record {
    script = sym is.script;
    refused = sym is.refused;
    kept = record { formed = subst AreInForm is.kept.memory.entries is.kept.formed; memory = same_back n.kept.memory m.kept.memory is.kept.memory; beside = λ drive block out. sym (is.kept.beside drive block out); alike = λ wanted. alike_back (Spells host.drives) (one_text host.drives) host.site (ok host has once) n.kept.content m.kept.content (is.kept.alike (subst MayBoot (sym is.script) wanted)); one = is.kept.other; other = is.kept.one };
    behaves = λ changes. subst NeverBoots is.script (is.behaves (subst (NextChanges host n.kept.memory) (sym is.script) (changes_back n.kept.memory m.kept.memory is.kept.memory m.script changes)));
  }

  sated_apart : (piece rest x : List ℕ) (status : RunStatus) → IsSated ((piece ++ rest) ++ x) status → IsSated (piece ++ (rest ++ x)) status
  sated_apart piece rest x status sated = subst (λ (l : List ℕ). IsSated l status) (append_assoc piece rest x) sated

  module _ (e f : Counts) (s r : RunStatus) (k j : Kept) where
    one_run : (w v : Stretch) (c d x_at y_at : ℕ) (n m p q : At) (a b x y : List ℕ) → Beside n m → BootsFirst host w c n → IsUndisturbed n.counts e → IsUndisturbed m.counts f → IsSated (a ++ x) s → IsSated (b ++ y) r
        → LinesTold host w c n a p → LinesTold host v d m b q → Over host w x_at e p x s k → Over host v y_at f q y r j → SameEnds host (a ++ x) (b ++ y) s r k j
    one_run w v c d x_at y_at n m p q a b x y beside first calm calm_too sated sated_too (no_line c_is at) (no_line d_is also) one two = one_over w v x_at y_at e f s r k j n m x y beside calm calm_too sated sated_too one two
    one_run w v c d x_at y_at n m p q a b x y beside first calm calm_too sated sated_too (no_line c_is at) (one_more d_is from mid to piece rest some said shown lines) one two =
        absurd (one_stays w v x_at y_at e f s r k j n m mid x piece (rest ++ y) beside calm calm_too (no_more_on mid.counts q.counts f (lines_rose host v (d + length piece) mid q rest lines).drives (over_rose host v y_at f q y r j two)) sated (sated_apart piece rest y r sated_too) one said)
    one_run w v c d x_at y_at n m p q a b x y beside first calm calm_too sated sated_too (one_more c_is from mid to piece rest some said shown lines) (no_line d_is at) one two =
        absurd (one_stays v w y_at x_at f e r s j k m n mid y piece (rest ++ x) (beside_back n m beside) calm_too calm (no_more_on mid.counts p.counts e (lines_rose host w (c + length piece) mid p rest lines).drives (over_rose host w x_at e p x s k one)) sated_too (sated_apart piece rest x s sated) two said)
    one_run w v c d x_at y_at n m p q a b x y beside first calm calm_too sated sated_too (one_more c_is from mid to piece rest some said shown lines) (one_more d_is start also last other behind some_too turn shown_too turns) one two =
        let up = no_more_on mid.counts p.counts e (lines_rose host w (c + length piece) mid p rest lines).drives (over_rose host w x_at e p x s k one) in
        let up_too = no_more_on also.counts q.counts f (lines_rose host v (d + length other) also q behind turns).drives (over_rose host v y_at f q y r j two) in
        let here = drives_calm n.counts n.counts mid.counts e (no_more_itself n.counts) up calm in
        let there = drives_calm m.counts m.counts also.counts f (no_more_itself m.counts) up_too calm_too in
        let left = calm_within n.counts mid.counts e e (next_rose host n.counts mid.counts n.kept mid.kept n.script mid.script said.answer said.comes) (rose_itself e) calm in
        let left_too = calm_within m.counts also.counts f f (next_rose host m.counts also.counts m.kept also.kept m.script also.script turn.answer turn.comes) (rose_itself f) calm_too in
        let all = sated_apart piece rest x s sated in
        let all_too = sated_apart other behind y r sated_too in
        let both = one_next n.counts mid.counts m.counts also.counts here there n.kept m.kept mid.kept also.kept n.script mid.script also.script beside.kept beside.behaves said.answer turn.answer
        (line_satisfied said.answer piece (rest ++ x) s said.said said.as_text all) (line_satisfied turn.answer other (behind ++ y) r turn.said turn.as_text all_too)
        said.comes (subst (λ (z : Script). NextLine host m.counts m.kept z turn.answer also.counts also.kept also.script) (sym beside.script) turn.comes) in
        let pieces : piece ≡ other = said.as_text ∙ sym (ap text_of both.same) ∙ sym turn.as_text in
        let whole : IsReply piece = subst IsReply (sym said.as_text) (said_reply said.answer both.plain said.said) in
        let ahead : BootsFirst host w (c + length piece) mid = λ told at more. first (piece ++ told) at (one_more c n mid at piece told some said shown more) in
        let ends = one_run w v (c + length piece) (d + length other) x_at y_at mid also p q rest behind x y
        (record { script = sym both.script; refused = said.as_refused ∙ same_refused said.answer turn.answer n.refused m.refused both.same beside.refused ∙ sym turn.as_refused; kept = both.kept said.said; behaves = ahead [] mid (no_line (c + length piece) mid) })
        ahead left left_too (rest_sated piece (rest ++ x) s whole all) (rest_sated other (behind ++ y) r (subst IsReply pieces whole) all_too) lines turns one two in
        (append_assoc piece rest x ∙ (λ i. pieces i ++ ends.0 i) ∙ sym (append_assoc other behind y), ends.1, ends.2)

    runs_rose : (w : Stretch) (n : At) (told : List ℕ) → Runs host w e n told s k → NoMore n.counts e
    runs_rose w n told runs = no_more_on n.counts runs.at.counts e (lines_rose host w 0 n runs.at runs.so_far runs.lines).drives (over_rose host w (length runs.so_far) e runs.at runs.rest s k runs.over)

    one_from : (w v : Stretch) (answer : Answer) (now from : Counts) (p q : Progress) (n m : Kept) → (script : Script) → (IsSaid answer → Same host has once (MayBoot script) n m) → BootsFirst host w 0 (behind_boot now p n script) → (a b : List ℕ) → IsUndisturbed now e → IsUndisturbed from f → IsSated a s → IsSated b r
        → RunsFrom host w e answer now p n script a s k → RunsFrom host v f answer from q m script b r j → SameEnds host a b s r k j
    one_from w v (Said outcome.Ok) now from p q n m script same first a b calm calm_too sated sated_too one two =
        let ends = one_run w v 0 0 (length one.so_far) (length two.so_far) (behind_boot now p n script) (behind_boot from q m script) one.at two.at one.so_far two.so_far one.rest two.rest
        (record { script = refl; refused = refl; kept = same tt; behaves = first [] (behind_boot now p n script) (no_line 0 (behind_boot now p n script)) }) first calm calm_too (subst (λ (l : List ℕ). IsSated l s) one.parts sated) (subst (λ (l : List ℕ). IsSated l r) two.parts sated_too) one.lines two.lines one.over two.over in
        (one.parts ∙ ends.0 ∙ sym two.parts, ends.1, ends.2)
    one_from w v (Said (outcome.Values text)) now from p q n m script same first a b calm calm_too sated sated_too one two = absurd one
    one_from w v (Said (outcome.Refused refusal)) now from p q n m script same first a b calm calm_too sated sated_too one two = absurd one
    one_from w v (Ends end) now from p q n m script same first a b calm calm_too sated sated_too one two = one_stop host n m (status_at end) a b s r k j (ended_status end) one.2 two.2

  -- the boot at a run's start
  module _ (e : Counts) (s : RunStatus) (k : Kept) where
    from_rose : (w : Stretch) (answer : Answer) (now : Counts) (p : Progress) (n : Kept) (script : Script) (told : List ℕ) → RunsFrom host w e answer now p n script told s k → NoMore now e
    from_rose w (Said outcome.Ok) now p n script told from = runs_rose e e s s k k w (behind_boot now p n script) told from
    from_rose w (Said (outcome.Values text)) now p n script told from = absurd from
    from_rose w (Said (outcome.Refused refusal)) now p n script told from = absurd from
    from_rose w (Ends end) now p n script told from = same_counts now e from.0

    satisfied_from : (w : Stretch) (answer : Answer) (now : Counts) (p : Progress) (n : Kept) (script : Script) (told : List ℕ) → IsSated told s → RunsFrom host w e answer now p n script told s k → IsSatisfied answer
    satisfied_from w answer now p n script told sated from = record {
      not_refused = λ is. (let never : ⊥ = subst (λ (x : Answer). RunsFrom host w e x now p n script told s k) is from in never);
      not_wanting = λ is. (let stops : (e ≡ now) × EndsAt w p.story p.effort × Stops n NoMemory told s k = subst (λ (x : Answer). RunsFrom host w e x now p n script told s k) is from in sated.end stops.2.ended);
    }

  one_start : (script : Script) (calls also : Outcomes) → NoneFailed calls → NoneFailed also → (n m : Kept) (a b : Answer) → IsSatisfied a → IsSatisfied b → IsRebooted calls host (started content) a n → IsRebooted also host (started content) b m → One host has once (MayBoot script) n m a b
  one_start script calls also calm calm_too n m a b enough enough_too first second =
      one_boot host has once calls also calm calm_too (started content) (started content) n m a b (alike_itself (Spells host.drives) (one_text host.drives) host.site (ok host has once) content) refl (λ drive block out. refl) enough enough_too (MayBoot script) first second

pub one_course : OneCourse
one_course = λ host content has once script w v start end from to calm calm_too a b s r k j sated sated_too first boots second.
    let up = from_rose host content has once end s k w first.answer first.booted first.by first.kept script a first.runs in
    let up_too = from_rose host content has once to r j v second.answer second.booted second.by second.kept script b second.runs in
    let here = drives_calm start start first.booted end (no_more_itself start) up calm in
    let there = drives_calm from from second.booted to (no_more_itself from) up_too calm_too in
    let left = calm_within start first.booted end end (calmly_rose start first.booted first.rose) (rose_itself end) calm in
    let left_too = calm_within from second.booted to to (calmly_rose from second.booted second.rose) (rose_itself to) calm_too in
    let both = one_start host content has once script (drive_failures start first.booted) (drive_failures from second.booted) here there first.kept second.kept first.answer second.answer
    (satisfied_from host content has once end s k w first.answer first.booted first.by first.kept script a sated first.runs) (satisfied_from host content has once to r j v second.answer second.booted second.by second.kept script b sated_too second.runs)
    first.boots second.boots in
    one_from host content has once end to s r k j w v first.answer first.booted second.booted first.by second.by first.kept second.kept script both.1 boots a b left left_too sated sated_too first.runs
    (subst (λ (x : Answer). RunsFrom host v to x second.booted second.by second.kept script b r j) (sym both.0) second.runs)
