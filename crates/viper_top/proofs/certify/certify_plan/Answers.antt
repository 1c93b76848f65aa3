use Rattle.viper_top.proofs.CertifyEndings.{refused_so}
use Rattle.viper_top.proofs.certify.certify_plan.Goals as goal

pub returns-in-Err : goal.returns-in-Err
returns-in-Err c = refused_so c.args.plan.now c.in-Err.fault c.refused.result c.in-Err.ensures.fault c.in-Err.ensures.complete c.refused.ensures.cause c.refused.ensures.not_memory
