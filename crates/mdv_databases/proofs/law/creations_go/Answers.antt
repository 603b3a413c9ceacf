use Rattle.mdv_databases.proofs.Creating.{begun_stand, created_fails, created_goes, created_made, may_create}
use Rattle.mdv_databases.proofs.law.creations_go.Goals as goal

pub returns : goal.returns
returns c = record {
  begins = λ g all key identity lines count blocks t is. (begun_stand g all key identity lines count blocks t is, may_create g all key identity lines count blocks t is);
  moments = λ g all key identity lines count blocks t m is moment. created_goes g all key identity lines count blocks t is m moment;
  made = λ g all key identity lines count blocks o t u is moment. created_made g all key identity lines count blocks t is u moment o;
  failed = λ g all key identity lines count blocks t u is moment. created_fails g all key identity lines count blocks t is u moment;
}
