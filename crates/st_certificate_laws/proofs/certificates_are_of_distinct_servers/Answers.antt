-- What the tests say.
use Rattle.st_certificate_laws.proofs.CertificateLaws.{certificate_says, sites_say}
use Rattle.st_certificate_laws.proofs.certificates_are_of_distinct_servers.Goals as goal

pub returns-clause-servers : goal.returns-clause-servers
returns-clause-servers g = λ holds f sites site s q e. certificate_says holds f sites site s q e

pub returns-clause-sites : goal.returns-clause-sites
returns-clause-sites g = λ holds f sites of_site words e. sites_say holds f sites of_site words e
