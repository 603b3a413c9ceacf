-- A reply that was told whole has some byte.
use Rattle.std.proofs.Common.{◌≡◌, inl, inr, ℕ, ◌<◌, List, [], ◌∷◌, ◌++◌, length, Option, sym, ◌∙◌, ap, subst, arith}
use Rattle.std.proofs.lemmas.List.{length-append}
use Rattle.mdv_engine_law.specs.Below.{Ends, Tale, told}
use Rattle.mdv_status.specs.Telling.{Said as SaidBytes}
use Rattle.mdv_engine_law.specs.declared.answer.Answer.{Answer}
use Rattle.mdv_engine_law.specs.declared.answer.Answer.TheVariants.{Said, Over}
use Rattle.mdv_engine_law.specs.declared.answer.Outcome.TheVariants as outcome
use Rattle.mdv_engine_law.specs.declared.answer.Ended.{Ended}
use Rattle.mdv_engine_law.specs.declared.answer.Ended.TheVariants as ended
use Rattle.mdv_engine_law.specs.declared.answer.Outcome.{Outcome}
use Rattle.mdv_engine_law.specs.declared.answer.Reply.{Reply}
use Rattle.mdv_engine_law.specs.Replies.{IsLost, IsPlainAnswer, IsPlainOutcome, IsReplied, IsReply, outcome_text, reply_at}
use Rattle.mdv_engine_law.specs.Standing.{OnlyReplied, Replied}
use Rattle.mdv_engine_law.proofs.Plain.{nothing_answers, ok_reply, values_are_reply, refusal_reply}

reply_some : (bytes : List ℕ) → IsReply bytes → 0 < length bytes
reply_some [] whole = absurd (let none = sym nothing_answers ∙ ap (λ (s : SaidBytes). s.replies) whole.alone in cc (none))
reply_some (b ∷ bytes) whole = omega arith

told_more : (t u : Tale) (bytes : List ℕ) → told u ≡ told t ++ bytes → IsReply bytes → length (told t) < length (told u)
told_more t u bytes is whole = omega (arith, ap length is ∙ length-append (told t) bytes, reply_some bytes whole)

outcome_some : (this : Outcome) → IsPlainOutcome this → IsReply (outcome_text this)
outcome_some outcome.Ok plain = ok_reply
outcome_some (outcome.Values text) plain = values_are_reply text plain
outcome_some (outcome.Refused refusal) plain = refusal_reply refusal plain

-- so it has some bytes
pub outcome_more : (this : Outcome) → IsPlainOutcome this → 0 < length (outcome_text this)
outcome_more this plain = reply_some (outcome_text this) (outcome_some this plain)

pub never_ended : (end : Ended) → IsReplied (reply_at end) → ⊥
never_ended (ended.Lost active listed) on = on
never_ended ended.Spent on = on
never_ended ended.Memory on = on
never_ended (ended.NoQuorum readable needed) on = on
never_ended (ended.TwoDatabases a b) on = on

-- such a reply says that the run is lost
pub ended_lost : (end : Ended) → IsLost (reply_at end)
ended_lost (ended.Lost active listed) = tt
ended_lost ended.Spent = tt
ended_lost ended.Memory = tt
ended_lost (ended.NoQuorum readable needed) = tt
ended_lost (ended.TwoDatabases a b) = tt

reply_more : (failed : Type 0) (answer : Answer) → IsPlainAnswer answer → (given : Reply) → IsReplied given → (t u : Tale) → Replied failed answer given t u → length (told t) < length (told u)
reply_more failed (Said this) plain given on t u is = elim is.as_told [
  | inl whole ↦ told_more t u is.piece is.is_told (subst IsReply (sym whole.1) (outcome_some this plain))
  | inr cut ↦ absurd (let never : ⊥ = subst IsReplied cut.given_is on in never)
]
reply_more failed (Over end) plain given on t u is = absurd (never_ended end (subst IsReplied is.as_told.0 on))

pub replied_more : (failed : Type 0) (answer : Answer) → IsPlainAnswer answer → (given : Reply) → IsReplied given → (old new : Option Tale) → Ends (OnlyReplied failed answer given) old new → Ends (λ t u. length (told t) < length (told u)) old new
replied_more failed answer plain given on old new ends t is = let end = ends t is in (end.0, end.1, reply_more failed answer plain given on t end.0 end.2.replied)
