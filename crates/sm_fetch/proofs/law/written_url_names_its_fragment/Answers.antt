use Rattle.sm_fetch.proofs.Urls.{url_names}
use Rattle.sm_fetch.proofs.law.written_url_names_its_fragment.Goals as goal

pub returns : goal.returns
returns c = url_names
