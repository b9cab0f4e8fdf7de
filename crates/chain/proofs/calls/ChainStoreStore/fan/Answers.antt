use Rattle.std.proofs.Common.{sym, ap, ◌∙◌}
use Rattle.chain.specs.declared.cells.Chain.{Chain}
use Rattle.chain.specs.Links.{chain_at}
use Rattle.chain.proofs.Chains.{chain_length}
use Rattle.chain.proofs.calls.ChainStoreStore.fan.Goals as goal

pub returns : goal.returns
returns c =
    let m = c.args.self.now in
    let n = c.args.node in
    ap (λ (chain : Chain). chain.fan) c.chain.ensures ∙ sym (chain_length m.cells (chain_at m.chains n).fan (chain_at m.chains n).head)
