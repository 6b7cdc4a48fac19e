use Rattle.std.proofs.Common.{◌≡◌}
use Rattle.rl_names.specs.Names.{lookup_in}
use Rattle.rl_names.proofs.Names.lookup.Given as goal

abbrev pub invariant-loop-k : goal.invariant-loop-k
invariant-loop-k l = lookup_in l.self.classes.now l.self.words.now l.t l.self.count ≡ lookup_in l.self.classes.now l.self.words.now l.t l.k
