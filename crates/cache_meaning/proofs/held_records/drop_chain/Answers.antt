use Rattle.std.proofs.Common.{rules, not}
use Rattle.std.proofs.lemmas.Fn.{filter_same}
use Rattle.cache_meaning.specs.Held.{same_zone_chain}
use Rattle.cache_meaning.proofs.held_records.drop_chain.Goals as goal

pub returns : goal.returns
returns c = filter_same _ (λ other. not (same_zone_chain c.args.chain.now other)) _ (λ x b f' k. search rules) c.args.chains.now.items c.retain.new.self.items c.retain.ensures.filtered
