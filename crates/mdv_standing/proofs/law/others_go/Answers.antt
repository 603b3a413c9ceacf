use Rattle.mdv_shown.specs.Laws.{Reads}
use Rattle.mdv_standing.proofs.Others.{claims_leave, first_formats_take, later_formats_take, slots_leave}
use Rattle.mdv_standing.proofs.Wiping.{wipes_leave}
use Rattle.mdv_standing.proofs.law.others_go.Goals as goal

pub returns : goal.returns
returns c = record {
  claims = λ read g key identity log w old new other line k first head number is small world. claims_leave (Reads read) g key identity log w old new other line k first head is world number small;
  slots = λ read g key identity log w old new other line k first head slot mark bytes body is table world. slots_leave (Reads read) g key identity log w old new other line k first head is world slot mark bytes body table;
  wipes = λ read g key identity log w old new other its line k first sound another has within alone world. wipes_leave (Reads read) g sound key identity log w old new other its line k first another has within alone world;
  first_formats = λ read g key identity log w old new other its line blocks count number before sound another f known world lose. first_formats_take (Reads read) g key identity log w old new other its line sound another world lose blocks count number before f known;
  later_formats = λ read g key identity log w old new other its line k number first sound another some f has world lose. later_formats_take (Reads read) g key identity log w old new other its line sound another world lose k number first some f has;
}
