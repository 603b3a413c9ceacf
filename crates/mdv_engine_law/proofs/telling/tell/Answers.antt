use Rattle.std.proofs.Common.{inl, inr, sym, subst, refl, length, ap, [], arith}
use Rattle.mdv_shelf.proofs.Counts.{took_one}
use Rattle.mdv_shelf.proofs.InTime.{kept_on_call}
use Rattle.mdv_shelf.proofs.Telling.{one_call_only, told_calm}
use Rattle.mdv_base.specs.Causes.{RoseOnce}
use Rattle.mdv_engine_law.specs.Below.{OnReplies}
use Rattle.mdv_engine_law.specs.Replies.{IsLost, IsPlainAnswer, IsTold, outcome_text, reply_to, text_of}
use Rattle.mdv_engine_law.specs.declared.answer.Answer.{Answer}
use Rattle.mdv_engine_law.specs.declared.answer.Outcome.{Outcome}
use Rattle.mdv_engine_law.specs.declared.answer.Outcome.TheVariants as outcome
use Rattle.mdv_engine_law.specs.declared.answer.Reply.TheVariants as reply
use Rattle.mdv_engine_law.proofs.Kept.{kept_on_itself, one_call_itself, replies_alone}
use Rattle.mdv_engine_law.proofs.Longer.{ended_lost, outcome_more}
use Rattle.mdv_engine_law.proofs.Giving.{told_whole, tells_some, telling_grew, telling_some}
use Rattle.mdv_engine_law.proofs.telling.tell.Goals as goal

-- the run isn't over with what is told
goes_on : (this : Outcome) → IsLost (reply_to this) → ⊥
goes_on outcome.Ok lost = lost
goes_on (outcome.Values text) lost = lost
goes_on (outcome.Refused refusal) lost = lost

-- some bytes are told
pub give-requires : goal.give-requires
give-requires g c = outcome_more c.in-Said.outcome (subst IsPlainAnswer c.in-Said.is c.requires)

-- it was told whole
pub returns-in-Ok-clause-told : goal.returns-in-Ok-clause-told
returns-in-Ok-clause-told g c = λ t is.
    let failed = RoseOnce (g.B.Shelf.faults c.args.bench.now OnReplies) (g.B.Shelf.faults c.give.new.bench OnReplies) in
    let text = outcome_text c.in-Said.outcome in
    told_whole failed c.args.answer.now c.reply_to.result text t _ _ is c.in-Ok.ensures.gives (subst (λ (a : Answer). IsTold failed a c.reply_to.result text) (sym c.in-Said.is) (inl (c.reply_to.ensures, refl)))

pub returns-in-Ok-clause-fronts : goal.returns-in-Ok-clause-fronts
returns-in-Ok-clause-fronts g c = λ t is.
    let text = outcome_text c.in-Said.outcome in
    telling_grew (text_of c.args.answer.now) t text (ap text_of (sym c.in-Said.is)) _ _ (length text) is c.in-Ok.ensures.gives

pub returns-in-Ok-clause-answers : goal.returns-in-Ok-clause-answers
returns-in-Ok-clause-answers g c =
    let failed = RoseOnce (g.B.Shelf.faults c.args.bench.now OnReplies) (g.B.Shelf.faults c.give.new.bench OnReplies) in
    (outcome_text c.in-Said.outcome, subst (λ (a : Answer). IsTold failed a c.reply_to.result (outcome_text c.in-Said.outcome)) (sym c.in-Said.is) (inl (c.reply_to.ensures, refl)))

pub returns-in-Ok-clause-counted : goal.returns-in-Ok-clause-counted
returns-in-Ok-clause-counted g c = record {
  once = λ told. took_one g.B.Shelf.calls g.B.Shelf.written _ _ 0 c.give.ensures.counted;
  one = one_call_only g.B.Shelf g.met.B.Shelf.telling OnReplies _ _ c.give.ensures.noted c.give.ensures.keeps;
  silent = λ lost. absurd (goes_on c.in-Said.outcome (subst IsLost c.reply_to.ensures lost));
  calm = λ told. told_calm (g.B.Shelf.faults c.args.bench.now) (g.B.Shelf.faults c.give.new.bench) c.in-Ok.ensures.cause;
  drives = c.in-Ok.ensures.cause.drives;
}

pub returns-in-Ok-clause-kept : goal.returns-in-Ok-clause-kept
returns-in-Ok-clause-kept g c = kept_on_call g.B.Shelf OnReplies _ _ c.give.ensures.noted c.give.ensures.keeps (replies_alone _ _ c.in-Ok.ensures.cause.drives)

-- a front of it, or nothing
pub returns-in-Err-clause-told : goal.returns-in-Err-clause-told
returns-in-Err-clause-told g c = λ t is.
    let failed = RoseOnce (g.B.Shelf.faults c.args.bench.now OnReplies) (g.B.Shelf.faults c.give.new.bench OnReplies) in
    tells_some failed (outcome_text c.in-Said.outcome) c.args.answer.now t _ _ is
    (λ count piece front. subst (λ (a : Answer). IsTold failed a reply.Told piece) (sym c.in-Said.is) (inr (record { cause = c.in-Err.ensures.cause.own.failed; given_is = refl; count = count; front = front })))
    c.in-Err.ensures.gives

pub returns-in-Err-clause-fronts : goal.returns-in-Err-clause-fronts
returns-in-Err-clause-fronts g c = λ t is. telling_some (text_of c.args.answer.now) t (outcome_text c.in-Said.outcome) _ _ (ap text_of (sym c.in-Said.is)) is c.in-Err.ensures.gives

pub returns-in-Err-clause-answers : goal.returns-in-Err-clause-answers
returns-in-Err-clause-answers g c =
    let failed = RoseOnce (g.B.Shelf.faults c.args.bench.now OnReplies) (g.B.Shelf.faults c.give.new.bench OnReplies) in
    ([], subst (λ (a : Answer). IsTold failed a reply.Told []) (sym c.in-Said.is) (inr (record { cause = c.in-Err.ensures.cause.own.failed; given_is = refl; count = 0; front = refl })))

pub returns-in-Err-clause-counted : goal.returns-in-Err-clause-counted
returns-in-Err-clause-counted g c = record {
  once = λ told. took_one g.B.Shelf.calls g.B.Shelf.written _ _ 0 c.give.ensures.counted;
  one = one_call_only g.B.Shelf g.met.B.Shelf.telling OnReplies _ _ c.give.ensures.noted c.give.ensures.keeps;
  silent = λ lost. absurd lost;
  calm = λ on. absurd on;
  drives = c.in-Err.ensures.cause.drives;
}

pub returns-in-Err-clause-kept : goal.returns-in-Err-clause-kept
returns-in-Err-clause-kept g c = kept_on_call g.B.Shelf OnReplies _ _ c.give.ensures.noted c.give.ensures.keeps (replies_alone _ _ c.in-Err.ensures.cause.drives)

-- nothing was told
pub returns-in-Over-clause-counted : goal.returns-in-Over-clause-counted
returns-in-Over-clause-counted g c = record {
  once = λ on. absurd (on (subst IsLost (sym c.reply_at.ensures) (ended_lost c.in-Over.end)));
  one = one_call_itself g.B.Shelf c.args.bench.now;
  silent = λ lost. refl;
  calm = λ on part. omega arith;
  drives = λ drive. refl;
}

pub returns-in-Over-clause-kept : goal.returns-in-Over-clause-kept
returns-in-Over-clause-kept g c = kept_on_itself g.B.Shelf c.args.bench.now OnReplies
