-- A run that came to the end of its script has answered each line, and tells by its status whether one was refused.
use Rattle.std.proofs.Common.{◌≡◌, ◌⊎◌, ◌↔◌, inl, inr, ⊎_elim, ℕ, ◌+◌, Bool, true, false, List, [], ◌∷◌, ◌++◌, length, append-nil, Some, None, Contains, refl, sym, ◌∙◌, ap, subst}
use Rattle.mdv_engine_law.specs.Line.{Kept}
use Rattle.mdv_engine_law.specs.Replies.{IsPlainAnswer, IsRefusal, IsReply, text_of}
use Rattle.mdv_engine_law.specs.declared.answer.Answer.{Answer}
use Rattle.mdv_engine_law.specs.declared.answer.Answer.TheVariants.{Said, Over as Ends}
use Rattle.mdv_engine_law.specs.declared.answer.Ended.{Ended}
use Rattle.mdv_engine_law.specs.declared.answer.Ended.TheVariants as stop
use Rattle.mdv_engine_law.specs.declared.answer.Outcome.TheVariants as outcome
use Rattle.mdv_engine_law.specs.declared.host.Host.{Host}
use Rattle.mdv_engine_law.proofs.Plain.{nothing_answers}
use Rattle.mdv_port.specs.Script.{Script, at_end, line, spent, too_long}
use Rattle.mdv_run_law.specs.Run.{At, Counts, EndsAs, EndsWith, IsSaid, LinesTold, NextLine, Over, Progress, RunsFrom, Stretch, behind_boot, broken, ended, giving_failed, no_line, one_more, refused_by, status_at, status_of, unread}
use Rattle.mdv_run_law.specs.declared.status.RunStatus.{RunStatus}
use Rattle.mdv_run_law.specs.declared.status.RunStatus.TheVariants.{Done, SomeRefused}
use Rattle.mdv_status.specs.Telling.{Said as SaidBytes, replies_in}
use Rattle.mdv_volumes.proofs.Lists.{contains_behind, contains_first, first_or_behind}
use Rattle.mdv_theorem.specs.Exchanges.{Exchange, exchanges, exchanges_of}
use Rattle.mdv_theorem.specs.Observed.{RunsAnswer}
use Rattle.mdv_theorem.proofs.Lines.{never_in}
use Rattle.mdv_theorem.proofs.Steps.{next_plain, next_reply}
use Rattle.mdv_theorem.proofs.Telling.{entries_are_none, ok_is_none, values_are_none, quiet_is_none}

-- each of these was answered
abbrev AreAnswered : List Exchange → Type 0
AreAnswered lines = (one : Exchange) → Contains lines one → one.reply ≡ None → ⊥

-- one of these tells a refusal
abbrev HasRefusal : List (List ℕ) → Type 0
HasRefusal replies = (reply : List ℕ) × Contains replies reply × IsRefusal reply

-- an answer's text tells a refusal just where it counts as one
abbrev Counted : Answer → Type 0
Counted answer = (IsRefusal (text_of answer) × ((before : Bool) → refused_by answer before ≡ true)) ⊎ ((IsRefusal (text_of answer) → ⊥) × ((before : Bool) → refused_by answer before ≡ before))

counted : (answer : Answer) → IsPlainAnswer answer → IsSaid answer → Counted answer
counted (Said outcome.Ok) plain said = inr ((λ is. ok_is_none is.0 is.1), λ before. refl)
counted (Said (outcome.Values text)) (inl are) said = inr ((λ is. values_are_none are.at are.blocks is.0 (sym are.is ∙ is.1)), λ before. refl)
counted (Said (outcome.Values text)) (inr (inl are)) said = inr ((λ is. entries_are_none are.count is.0 (sym are.is ∙ is.1)), λ before. refl)
counted (Said (outcome.Values text)) (inr (inr are)) said = inr ((λ is. quiet_is_none are.lines is.0 are.quiet (sym are.is ∙ is.1)), λ before. refl)
counted (Said (outcome.Refused refusal)) plain said = inl ((refusal, refl), λ before. refl)
counted (Ends end) plain said = absurd said

-- whether one was refused by then, of which it was known before these replies
record Knows (before after : Bool) (replies : List (List ℕ)) : Type 0 where
  told : after ≡ true → (before ≡ true) ⊎ HasRefusal replies
  stays : before ≡ true → after ≡ true
  seen : HasRefusal replies → after ≡ true

knows_more : (answer : Answer) (before mid after : Bool) (replies : List (List ℕ)) → Counted answer → mid ≡ refused_by answer before → Knows mid after replies → Knows before after (text_of answer ∷ replies)
knows_more answer before mid after replies (inl (is, counts)) same rest = record {
  told = λ so. inr (text_of answer, contains_first (text_of answer) replies, is);
  stays = λ so. rest.stays (same ∙ counts before);
  seen = λ has. rest.stays (same ∙ counts before);
}
knows_more answer before mid after replies (inr (never, counts)) same rest =
    let kept : mid ≡ before = same ∙ counts before in
    record {
      told = λ so. ⊎_elim (λ was. inl (sym kept ∙ was)) (λ has. inr (has.0, contains_behind (text_of answer) has.0 replies has.1, has.2)) (rest.told so);
      stays = λ so. rest.stays (kept ∙ so);
      seen = λ has. ⊎_elim (λ here. absurd (never (subst IsRefusal (sym here) has.2))) (λ behind. rest.seen (has.0, behind, has.2)) (first_or_behind (text_of answer) has.0 replies has.1);
    }

module _ (host : Host) where
  -- the next line was answered, and those behind it
  next_answered : (now mid : Counts) (first next : Kept) (script more : Script) (answer : Answer) (replies : List (List ℕ)) → NextLine host now first script answer mid next more
      → AreAnswered (exchanges more replies) → AreAnswered (exchanges script (text_of answer ∷ replies))
  next_answered now mid first next at_end more answer replies is behind = absurd is
  next_answered now mid first next (spent lines bytes) more answer replies is behind = absurd is
  next_answered now mid first next (too_long left) more answer replies is behind = subst (λ (s : Script). AreAnswered (exchanges s replies)) is.0 behind
  next_answered now mid first next (line text left) more answer replies is behind = λ one has none.
      ⊎_elim
      (λ (here : ◌≡◌ {A = Exchange} (record { text = text; reply = Some (text_of answer) }) one). let told : Some (text_of answer) ≡ one.reply = ap (λ (e : Exchange). e.reply) here in absurd (cc (told, none)))
      (λ rest. subst (λ (s : Script). AreAnswered (exchanges s replies)) is.0 behind one rest none)
      (first_or_behind _ one (exchanges left replies) has)

  -- so each was, where the script is at its end behind them
  lines_answered : (w : Stretch) (bytes : ℕ) (now last : At) (told : List ℕ) → LinesTold host w bytes now told last → last.script ≡ at_end
      → AreAnswered (exchanges_of now.script told) × Knows now.refused last.refused (replies_in told)
  lines_answered w bytes now last told (no_line n at) over =
      let none : exchanges_of now.script [] ≡ [] = ap (λ (s : Script). exchanges_of s []) over in (
        (λ one has. absurd (never_in one (subst (λ (l : List Exchange). Contains l one) none has))),
        record { told = λ so. inl so; stays = λ so. so; seen = λ has. absurd (never_in has.0 (subst (λ (l : List (List ℕ)). Contains l has.0) nothing_answers has.1)) },
      )
  lines_answered w bytes now last told (one_more n at mid end piece rest some one shown lines) over =
      let whole : IsReply (text_of one.answer) = next_reply host now.counts mid.counts now.kept mid.kept now.script mid.script one.answer one.comes one.said in
      let replies : text_of one.answer ∷ replies_in rest ≡ replies_in (piece ++ rest) =
      sym (ap (λ (l : List ℕ). replies_in (l ++ rest)) one.as_text ∙ ap (λ (s : SaidBytes). s.replies) (whole.behind rest)) in
      let behind = lines_answered w (n + length piece) mid last rest lines over in
      let plain = next_plain host now.counts mid.counts now.kept mid.kept now.script mid.script one.answer one.comes in (
        subst (λ (l : List (List ℕ)). AreAnswered (exchanges now.script l)) replies
            (next_answered now.counts mid.counts now.kept mid.kept now.script mid.script one.answer (replies_in rest) one.comes behind.0),
        subst (Knows now.refused last.refused) replies (knows_more one.answer now.refused mid.refused last.refused (replies_in rest) (counted one.answer plain one.said) one.as_refused behind.1),
      )

-- the status of a run that came to its script's end
abbrev IsAtEnd : RunStatus → Type 0
IsAtEnd Done = Unit {0}
IsAtEnd SomeRefused = Unit {0}
IsAtEnd other = ⊥

no_end : (over : Ended) → IsAtEnd (status_at over) → ⊥
no_end (stop.Lost active listed) is = is
no_end stop.Spent is = is
no_end stop.Memory is = is
no_end (stop.NoQuorum readable needed) is = is
no_end (stop.TwoDatabases a b) is = is

-- the script is at its end then, and nothing more was told
record Came (now : At) (told : List ℕ) (status : RunStatus) : Type 0 where
  script : now.script ≡ at_end
  silent : told ≡ []
  by_status : status ≡ status_of now.refused

by_script : (refused : Bool) (script : Script) (status : RunStatus) → IsAtEnd status → EndsAs refused script status → (script ≡ at_end) × (status ≡ status_of refused)
by_script refused at_end status is ends = (refl, ends)
by_script refused (spent lines bytes) status is ends = absurd (subst IsAtEnd ends is)
by_script refused (too_long more) status is ends = absurd ends
by_script refused (line text more) status is ends = absurd ends

status_tells : (refused : Bool) → (status_of refused ≡ SomeRefused) ↔ (refused ≡ true)
status_tells true = ((λ is. refl), λ is. refl)
status_tells false = ((λ is. absurd (cc (is))), λ is. absurd (cc (is)))

module _ (host : Host) (end : Counts) (status : RunStatus) (is : IsAtEnd status) where
  broken_never : (failed : Type 0) (answer : Answer) (next last : Kept) (told : List ℕ) → EndsWith failed answer next told status last → ⊥
  broken_never failed (Said this) next last told with = subst IsAtEnd with.ended is
  broken_never failed (Ends over) next last told with = no_end over (subst IsAtEnd with.ended is)

  came : (w : Stretch) (n : ℕ) (now : At) (told : List ℕ) (last : Kept) → Over host w n end now told status last → Came now told status
  came w n now told last (unread only quiet stops) = absurd (subst IsAtEnd stops.ended is)
  came w n now told last (ended how same quiet stops) = let over = by_script now.refused now.script status is how in record { script = over.0; silent = stops.silent; by_status = over.1 }
  came w n now told last (broken answer later next more comes shown only led with) = absurd (broken_never (giving_failed later end) answer next last told with)

  abbrev IsAnswered : Script → List ℕ → Type 0
  IsAnswered script told = AreAnswered (exchanges_of script told) × ((status ≡ SomeRefused) ↔ HasRefusal (replies_in told))

  runs_told : (w : Stretch) (answer : Answer) (now : Counts) (p : Progress) (kept : Kept) (script : Script) (told : List ℕ) (last : Kept) → RunsFrom host w end answer now p kept script told status last → IsAnswered script told
  runs_told w (Said outcome.Ok) now p kept script told last runs =
      let over = came w (length runs.so_far) runs.at runs.rest last runs.over in
      let whole : runs.so_far ≡ told = sym (runs.parts ∙ ap (λ (l : List ℕ). runs.so_far ++ l) over.silent ∙ append-nil runs.so_far) in
      let lines = lines_answered host w 0 (behind_boot now p kept script) runs.at runs.so_far runs.lines over.script in
      let knows = lines.1 in
      let tells = status_tells runs.at.refused in
      subst (IsAnswered script) whole (
        lines.0,
        ((λ so. ⊎_elim (λ was. absurd (cc (was))) (λ has. has) (knows.told (tells.0 (sym over.by_status ∙ so)))), λ has. over.by_status ∙ tells.1 (knows.seen has)),
      )
  runs_told w (Said (outcome.Values text)) now p kept script told last runs = absurd runs
  runs_told w (Said (outcome.Refused refusal)) now p kept script told last runs = absurd runs
  runs_told w (Ends over) now p kept script told last runs = absurd (no_end over (subst IsAtEnd runs.2.ended is))

pub runs_answer : RunsAnswer
runs_answer = λ host stretch start end t tale script status whole so.
    let run = whole.runs in
    let is : IsAtEnd status = ⊎_elim (λ done. subst IsAtEnd (sym done) tt) (λ some. subst IsAtEnd (sym some) tt) so in
    runs_told host end status is stretch run.answer run.booted run.by run.kept script whole.more whole.last run.runs
