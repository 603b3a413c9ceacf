use Rattle.mdv_parts.proofs.Reading.{no_part}
use Rattle.mdv_parts.proofs.part.read_part.Goals as goal

pub returns-clause-none : goal.returns-clause-none
returns-clause-none c =
    no_part _ _ _ c.in_default.ensures.no_number c.in_default.ensures.no_size c.in_default-read_letter.ensures.none c.in_default-read_replicas.ensures.none c.read_name.ensures.no_slice c.read_name.ensures.no_volume c.read_name.ensures.no_pool
