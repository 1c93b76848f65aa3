use Rattle.std.proofs.Common.{◌∙◌, ap, subst, inl, codes, List, ℕ}
use Rattle.cert_format.specs.declared.fault.CertRule.{CertRule}
use Rattle.cert_format.specs.ReadCerts.{IsFirstFault}
use Rattle.viper_top.specs.Contents.{offset_text, cert_rule}
use Rattle.viper_top.specs.Endings.{input}
use Rattle.viper_top.proofs.stage.take_cert.Goals as goal

pub returns-in-Err-At-clause-took : goal.returns-in-Err-At-clause-took
returns-in-Err-At-clause-took c =
    inl (record {
      fault = record { offset = c.in-Err-At.offset; rule = c.in-Err-At.rule };
      breaks = subst (IsFirstFault c.args.bytes.now) c.in-Err-At.field-0-is c.in-Err-At.ensures.fault;
      is = c.in_ok-answer-in-Err-At.ensures
          ∙ ap (λ (n : ℕ). input (offset_text (codes "cert") n c.cert_rule.result.now)) c.in-Err-At.offset-is
          ∙ ap (λ (name : List ℕ). input (offset_text (codes "cert") c.in-Err-At.offset name)) c.cert_rule.ensures
          ∙ ap (λ (rule : CertRule). input (offset_text (codes "cert") c.in-Err-At.offset (cert_rule rule))) c.in-Err-At.rule-is;
    })
