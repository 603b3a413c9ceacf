use Rattle.mdv_tab.proofs.OneTab.{one_tab, never_bad, never_many, one_bad, never_either}
use Rattle.mdv_tab.proofs.law.reads_as_one_tab.Goals as goal

pub returns-clause-tabs : goal.returns-clause-tabs
returns-clause-tabs c = one_tab

pub returns-clause-wrong : goal.returns-clause-wrong
returns-clause-wrong c = never_bad

pub returns-clause-many : goal.returns-clause-many
returns-clause-many c = never_many

pub returns-clause-first : goal.returns-clause-first
returns-clause-first c = one_bad

pub returns-clause-either : goal.returns-clause-either
returns-clause-either c = never_either
