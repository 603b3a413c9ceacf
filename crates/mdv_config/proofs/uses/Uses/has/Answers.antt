use Rattle.mdv_config.proofs.uses.Uses.has.Goals as goal

pub returns-in-None : goal.returns-in-None
returns-in-None c uses is = (λ test. cc, λ it. absurd (c.in-None.ensures.none it.overlaps.second it.overlaps.has_second))
