use Rattle.mdv_whole.proofs.Noting.{noted_is_table}
use Rattle.mdv_whole.proofs.law.noted_tables_have_texts.Goals as goal

pub returns : goal.returns
returns c t noted is = noted_is_table t noted is
