use Rattle.mdv_shown.specs.Laws.{Reads}
use Rattle.mdv_standing.proofs.Adopting.{begins, claim_answered, claiming, draws, finds, may_write}
use Rattle.mdv_standing.proofs.Looking.{looks}
use Rattle.mdv_standing.proofs.Taking.{answers, slot_taken, slotting}
use Rattle.mdv_standing.proofs.law.adoptions_go.Goals as goal

pub returns : goal.returns
returns c = record {
  looks = λ read site identity log w image seen world own. looks (Reads read) site identity log w image world seen own;
  finds = λ read site identity log w image seen s slot mark world r. finds (Reads read) site identity log w image world seen r s slot mark;
  draws = λ read site identity log w image seen s slot v world r. draws (Reads read) site identity log w image world seen r s slot v;
  claiming = λ read site identity log w old new line k first head v number ok c. claiming (Reads read) site identity log w old line k first head v number ok c new;
  claimed = λ read site identity log w old new line k first head v number ok c. claim_answered (Reads read) site identity log w old line k first head v number ok c new;
  may = λ read g site identity log w image p v number ok b. may_write (Reads read) site identity log w image p v number ok b g;
  begins = λ read site identity log w image p v number ok b. begins (Reads read) site identity log w image p v number ok b;
  slotting = λ read site identity log w old new line k first head slot v bytes body by_majority took s spare. slotting (Reads read) site identity log w old line k first head v bytes body by_majority took s new slot spare;
  slotted = λ read site identity log w old new line k first head slot v bytes body by_majority took s. slot_taken (Reads read) site identity log w old line k first head v bytes body by_majority took s new slot;
  answered = λ read site identity log w image v by_majority took t. answers (Reads read) site identity log w image v by_majority took t;
}
