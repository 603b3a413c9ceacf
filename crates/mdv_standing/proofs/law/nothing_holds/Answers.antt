use Rattle.std.proofs.Common.{◌≡◌, false}
use Rattle.mdv_shown.specs.Laws.{Reads}
use Rattle.mdv_standing.proofs.Voting.{all_that}
use Rattle.mdv_standing.proofs.Lawful.{unanswered, untold}
use Rattle.mdv_standing.proofs.law.nothing_holds.Goals as goal

pub returns : goal.returns
returns c = record {
  answered = λ read site identity log w image world lives none. all_that (λ x. x.is_written ≡ false) log.family (unanswered (Reads read) site identity log w image world none lives);
  told = λ read g site identity log w image is_log world lives none. untold (Reads read) site identity log w image world none lives g is_log;
}
