use Rattle.std.proofs.Common.{◌≡◌, true, false, refl}
use Rattle.mdv_grammar.proofs.Hosts.{names_more, names_stop}
use Rattle.mdv_grammar.proofs.sets.read_names.Goals as goal

pub returns-in_default-new : goal.returns-in_default-new
returns-in_default-new c = names_stop _ _ _ _ _ c.loop-word.invariant c.in-Some.ensures.word.words (λ form. let never : false ≡ true = c.in_default-new.ensures.valid.1 form in cc)

pub loop-word-preserved : goal.loop-word-preserved
loop-word-preserved c = names_more _ _ _ _ _ _ c.in-Some-new.name c.loop-word.invariant c.in-Some.ensures.word.words c.in-Some-new.ensures.value (c.in-Some-new.ensures.valid.0 refl) c.in_ok-push.ensures.ok
