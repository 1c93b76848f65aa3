use Rattle.viper_io.proofs.Sent.{sent_more, sent_within}
use Rattle.viper_io.proofs.files.whole.write_whole.Goals as goal

pub loop-sent-preserved : goal.loop-sent-preserved
loop-sent-preserved g c = record {
  within = sent_within c.args.bytes.now c.loop-sent.sent c.in-Ok.count c.loop-sent.invariant.within (c.in-Ok.ensures.bound);
  front = sent_more _ _ _ c.args.bytes.now c.loop-sent.sent c.in-Ok.count c.loop-sent.invariant.front (c.in-Ok.ensures.bytes);
}
