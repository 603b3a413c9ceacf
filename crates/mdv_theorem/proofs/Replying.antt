-- What was told of a reply is none, or the whole one.
use Rattle.std.proofs.Common.{◌≡◌, ◌⊎◌, ⊎_elim, inl, inr, ℕ, ◌≤◌, ◌<◌, [], length, take, refl, arith}
use Rattle.std.proofs.lemmas.List.{take_all}
use Rattle.mdv_engine_law.specs.Below.{said_in, unsaid}
use Rattle.mdv_engine_law.specs.Replies.{IsPlainAnswer, ok_line, text_of}
use Rattle.mdv_engine_law.specs.declared.answer.Answer.{Answer}
use Rattle.mdv_engine_law.specs.declared.answer.Answer.TheVariants.{Said, Over}
use Rattle.mdv_engine_law.specs.declared.answer.Outcome.TheVariants as outcome
use Rattle.mdv_engine_law.proofs.Plain.{Answers, refusal_answers, values_answer}
use Rattle.mdv_run_law.specs.Run.{IsSaid}

-- a front of such a reply is none, or all of it
answers : (answer : Answer) → IsPlainAnswer answer → IsSaid answer → Answers (text_of answer)
answers (Said outcome.Ok) plain said = values_answer ok_line (inl (record { at = 0; blocks = []; is = refl }))
answers (Said (outcome.Values text)) plain said = values_answer text plain
answers (Said (outcome.Refused refusal)) plain said = refusal_answers refusal plain
answers (Over end) plain said = absurd said

le_or_gt : (a b : ℕ) → (a < b) ⊎ (b ≤ a)
le_or_gt a b = grind arith

pub none_or_whole : (answer : Answer) → IsPlainAnswer answer → IsSaid answer → (count : ℕ) → (said_in (take count (text_of answer)) ≡ unsaid (take count (text_of answer))) ⊎ (take count (text_of answer) ≡ text_of answer)
none_or_whole answer plain said count = ⊎_elim
    (λ (short : count < length (text_of answer)). inl ((answers answer plain said).before count short))
    (λ (long : length (text_of answer) ≤ count). inr (take_all count (text_of answer) long))
    (le_or_gt count (length (text_of answer)))
