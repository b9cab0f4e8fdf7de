use Rattle.std.proofs.Common.{arith}
use Rattle.chain.proofs.Chains.{chain_length}
use Rattle.chain.proofs.calls.ChainStoreStore.lawful.Goals as goal

pub returns : goal.returns
returns c =
    let m = c.args.self.now in
    record {
      small = m.small;
      few = λ n. simp chain_length (m.few n);
      apart = m.apart;
      within = m.within;
      past = λ n h. rw (m.past n h);
      room = omega (arith, m.counted);
    }
