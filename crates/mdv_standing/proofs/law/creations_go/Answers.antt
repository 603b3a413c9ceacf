use Rattle.mdv_shown.specs.Laws.{Reads}
use Rattle.mdv_standing.proofs.Creating.{begins, first_formatted, first_formatting, later_formatted, later_formatting, may_write_first, writes_first}
use Rattle.mdv_standing.proofs.law.creations_go.Goals as goal

pub returns : goal.returns
returns c = record {
  begins = λ read site identity image lists none. begins (Reads read) site identity image none lists;
  first_formatting = λ read site identity log w old new line blocks count before lists done f known. first_formatting (Reads read) site identity log w old line blocks count lists done before f known new;
  first_formatted = λ read site identity log w old new line blocks count before lists done f known. first_formatted (Reads read) site identity log w old line blocks count lists done before f known new;
  later_formatting = λ read site identity log w old new line k first lists done some f has chain. later_formatting (Reads read) site identity log w old line k first lists done some f has chain new;
  later_formatted = λ read site identity log w old new line k first lists done some f has chain. later_formatted (Reads read) site identity log w old line k first lists done some f has chain new;
  may = may_write_first;
  writes = λ read site identity log w image p table done c some has named formed. writes_first (Reads read) site identity log w image p table done c some has named formed;
}
