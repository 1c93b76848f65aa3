-- Bytes spell one certificate, or have one first fault.
use Rattle.std.proofs.Common.{◌≡◌, ◌∙◌, ℕ, List, Some, None, sym, ap}
use Rattle.std.proofs.lemmas.Option.{none-some, same_Some}
use Rattle.cert_format.specs.declared.fault.CertRule.{CertRule}
use Rattle.cert_format.specs.declared.fault.CertFault.TheVariants as cert_faults
use Rattle.cert_format.specs.ReadCerts.{IsFirstFault, first_fault}
use Rattle.cert_format.proofs.CertLaws.{spelling_laws}
use Rattle.viper_top.specs.Certificates.{Certificate, IsCertificate}
use Rattle.viper_top.specs.Contents.{AtByte}

-- one certificate at the most, and else one first fault
pub record HasOneCertificate (bytes : List ℕ) : Type 0 where
  pub value : (c d : Certificate) → IsCertificate bytes c → IsCertificate bytes d → c ≡ d
  pub no_fault : (c : Certificate) (fault : AtByte) → IsCertificate bytes c → IsFirstFault bytes (cert_faults.At fault.offset fault.rule) → ⊥
  pub fault : (fault other : AtByte) → IsFirstFault bytes (cert_faults.At fault.offset fault.rule) → IsFirstFault bytes (cert_faults.At other.offset other.rule) → fault ≡ other

same_fault : (fault other : AtByte) → cert_faults.At fault.offset fault.rule ≡ cert_faults.At other.offset other.rule → fault ≡ other
same_fault fault other e =
    let offset : fault.offset ≡ other.offset = cc e in
    let rule : fault.rule ≡ other.rule = cc e in
    ap (λ (o : ℕ). record { offset = o; rule = fault.rule }) offset ∙ ap (λ (r : CertRule). record { offset = other.offset; rule = r }) rule

pub certificate_reading : (bytes : List ℕ) → HasOneCertificate bytes
certificate_reading bytes = record {
  value = λ c d (v, is_c) (w, is_d). (spelling_laws.one_certificate bytes v w c d is_c is_d).1;
  no_fault = λ c fault (v, is) broken. none-some (cert_faults.At fault.offset fault.rule) (sym (spelling_laws.spelled bytes v c is) ∙ broken);
  fault = λ fault other a b. same_fault fault other (same_Some (cert_faults.At fault.offset fault.rule) (cert_faults.At other.offset other.rule) (sym a ∙ b));
}
