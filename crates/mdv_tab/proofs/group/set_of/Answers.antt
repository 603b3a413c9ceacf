use Rattle.std.proofs.Common.{sym, ◌∙◌, ap}
use Rattle.mdv_name.specs.declared.volume.VolName.{VolName}
use Rattle.mdv_name.specs.declared.volume.PoolName.{PoolName}
use Rattle.mdv_name.proofs.Volumes.{one_volume, one_pool}
use Rattle.mdv_tab.proofs.SetOf.{never_both}
use Rattle.mdv_tab.proofs.group.set_of.Goals as goal

pub returns-in-Some : goal.returns-in-Some
returns-in-Some c =
    record {
      volume = λ v form spells. ap (λ (n : VolName). n.set) (one_volume c.in-Some.volume v c.args.word.now c.in-Some.ensures.form form c.in-Some.ensures.value spells);
      pool = λ p form spells. absurd (never_both c.args.word.now c.in-Some.volume p c.in-Some.ensures.form form c.in-Some.ensures.value spells);
      other = λ no_volume no_pool. absurd (no_volume c.in-Some.volume c.in-Some.ensures.form c.in-Some.ensures.value);
    }

pub returns-in-Some-parse_pool : goal.returns-in-Some-parse_pool
returns-in-Some-parse_pool c =
    record {
      volume = λ v form spells. absurd (c.in_default.ensures.none v form spells);
      pool = λ p form spells. ap (λ (n : PoolName). n.set) (one_pool c.in-Some-parse_pool.pool p c.in-Some-parse_pool.ensures.form form (sym c.in-Some-parse_pool.ensures.value ∙ spells));
      other = λ no_volume no_pool. absurd (no_pool c.in-Some-parse_pool.pool c.in-Some-parse_pool.ensures.form c.in-Some-parse_pool.ensures.value);
    }
