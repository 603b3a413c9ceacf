use Rattle.mdv_shown.specs.Laws.{Reads}
use Rattle.mdv_standing.proofs.Knowing.{known_claims, known_first, known_later, known_slots, known_wipes}
use Rattle.mdv_standing.proofs.law.known_stay.Goals as goal

pub returns : goal.returns
returns c = record {
  claims = λ read g all old new key line k first head number sound found small known. known_claims (Reads read) g all old new sound known key line k first head found number small;
  slots = λ read g all old new key line k first head slot mark bytes body sound found table known. known_slots (Reads read) g all old new sound known key line k first head found slot mark bytes body table;
  wipes = λ read g all old new key line k first sound has within known. known_wipes (Reads read) g all old new sound known key line k first has within;
  first_formats = λ read g all old new key identity line blocks count number before sound one f located known. known_first (Reads read) g all old new sound known key line identity one blocks count number before f located;
  later_formats = λ read g all old new key identity line k number first sound one some f has known. known_later (Reads read) g all old new sound known key line identity one k number first some f has;
}
