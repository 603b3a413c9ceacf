use Rattle.mdv_shown.specs.Laws.{Reads}
use Rattle.mdv_standing.proofs.Holding.{gone_on, joined, rest_of}
use Rattle.mdv_standing.proofs.Rest.{rest_claims, rest_first, rest_later, rest_slots, rest_wipes}
use Rattle.mdv_standing.proofs.law.databases_turn.Goals as goal

pub returns : goal.returns
returns c = record {
  rest = λ read g all identity t. rest_of (Reads read) g all t identity;
  claims = λ read g all key identity t m line k first head number sound own small rest leaves image is.
      (let from = leaves image is in rest_claims (Reads read) g all from.0 image sound key identity (rest from.0 from.1) line k first head (own from.0 from.1) number small from.2);
  slots = λ read g all key identity t m line k first head slot mark bytes body sound own table rest leaves image is.
      (let from = leaves image is in rest_slots (Reads read) g all from.0 image sound key identity (rest from.0 from.1) line k first head (own from.0 from.1) slot mark bytes body table from.2);
  wipes = λ read g all key identity t m line k first sound has within alone rest leaves image is.
      (let from = leaves image is in rest_wipes (Reads read) g all from.0 image sound key identity (rest from.0 from.1) line k first (has from.0 from.1) within (alone from.0 from.1) from.2);
  first_formats = λ read g all key identity t m line blocks count number before sound one f located taken rest leaves image is.
      (let from = leaves image is in rest_first (Reads read) g all from.0 image sound key identity (rest from.0 from.1) line one (taken from.0 from.1) blocks count number before (f from.0 from.1) (located from.0 from.1) from.2);
  later_formats = λ read g all key identity t m line k number first sound one some f has taken rest leaves image is.
      (let from = leaves image is in rest_later (Reads read) g all from.0 image sound key identity (rest from.0 from.1) line one (taken from.0 from.1) k number first some (f from.0 from.1) (has from.0 from.1) from.2);
  joins = λ read g all d t has rest. joined (Reads read) g all t d rest has;
  goes = λ read g all d e t current rest. gone_on (Reads read) g all t d rest e current;
}
