use Rattle.std.proofs.Common.{◌≡◌, ◌∙◌, ap, sym, subst, ℕ, Some, arith}
use Rattle.cert_format.specs.declared.fault.CertFault.TheVariants as faults
use Rattle.cert_format.specs.declared.fault.ReadError.{ReadError}
use Rattle.cert_format.specs.declared.fault.ReadError.TheVariants as errors
use Rattle.cert_format.specs.Reading.{Fails}
use Rattle.cert_format.specs.ReadCerts.{cert_of}
use Rattle.cert_format.proofs.CertLaws.{cert_takes}
use Rattle.cert_format.proofs.ReadLaws.{fault_is, only_that, no_fault_there}
use Rattle.cert_format.proofs.reading.read_cert.Goals as goal

pub returns-in-Ok-clause-found : goal.returns-in-Ok-clause-found
returns-in-Ok-clause-found c = cert_takes c.args.bytes.now c.in-Ok.cert (λ i. omega (arith, c.type_inv.bytes i)) c.in-Ok.ensures

pub returns-in-Ok-clause-only : goal.returns-in-Ok-clause-only
returns-in-Ok-clause-only c = λ v d i. only_that c.args.bytes.now v d c.in-Ok.cert i c.in-Ok.ensures

pub returns-in-Err-At-clause-fault : goal.returns-in-Err-At-clause-fault
returns-in-Err-At-clause-fault c =
    let f = c.in-Err-At.fault in
    let a = c.in-Err-At.is in let b = c.in-Err-At.fault-is in let d = c.in-Err-At.field-0-is in
    let e : c.in-Err-At.field-0 ≡ errors.At f = cc in
    let fails = subst (λ (r : ReadError). Fails r (cert_of c.args.bytes.now)) e c.in-Err-At.ensures in
    fault_is c.args.bytes.now f fails ∙ ap (λ (n : ℕ). Some (faults.At n f.rule)) (sym c.saturating_sub.ensures)

pub returns-in-Err-At-clause-only : goal.returns-in-Err-At-clause-only
returns-in-Err-At-clause-only c = λ v d i.
    let f = c.in-Err-At.fault in
    let a = c.in-Err-At.is in let b = c.in-Err-At.fault-is in let g = c.in-Err-At.field-0-is in
    let e : c.in-Err-At.field-0 ≡ errors.At f = cc in
    let fails = subst (λ (r : ReadError). Fails r (cert_of c.args.bytes.now)) e c.in-Err-At.ensures in
    no_fault_there c.args.bytes.now v d f i fails
