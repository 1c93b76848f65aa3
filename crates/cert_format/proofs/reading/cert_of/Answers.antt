use Rattle.std.proofs.Common.{◌≡◌, [], ℕ, List, length, Result, Ok, subst, sym}
use Rattle.std.proofs.lemmas.Result.{err_from_is_err_and}
use Rattle.val_dom.specs.declared.val.Val.{Val}
use Rattle.cert_format.specs.declared.fault.Fault.{Fault}
use Rattle.cert_format.specs.Certificates.{CertificateOf}
use Rattle.cert_format.specs.Reading.{Fails, many_at}
use Rattle.cert_format.specs.ReadNodes.{placed_at}
use Rattle.cert_format.specs.ReadCerts.{gathered, heading, heading_at, Gives, ended}
use Rattle.cert_format.proofs.ReadLaws.{heading_fails, nodes_fail, cert_ends}
use Rattle.cert_format.proofs.reading.cert_of.Goals as goal

pub returns-in_err-heading : goal.returns-in_err-heading
returns-in_err-heading c =
    let e = c.in_err-heading.field-0.0 in
    let p = err_from_is_err_and c.from_residual.result c.from_residual.ensures.1 in
    rw (p.1, p.2) (heading_fails e c.args.bytes.now (subst (λ (bs : List ℕ). Fails e (heading_at bs)) c.new-input.ensures c.in_err-heading.ensures.value))

pub returns-in_err-lefts : goal.returns-in_err-lefts
returns-in_err-lefts c =
    let e = c.in_err-lefts.field-0.0 in
    let h = heading c.in_ok-heading.heading in
    let rest = c.heading_at.new.input in
    let p = err_from_is_err_and c.from_residual-in_err-lefts.result c.from_residual-in_err-lefts.ensures.1 in
    let at = subst (λ (bs : List ℕ). heading_at bs ≡ Ok (h, rest)) c.new-input.ensures c.in_ok-heading.ensures.value in
    let fails = subst (λ (k : CertificateOf Val). Fails e (gathered k [] (many_at (placed_at h.version (length k.cells) h.count) h.count rest))) c.new-cert.ensures c.in_err-lefts.ensures in
    rw (p.1, p.2) (nodes_fail e c.args.bytes.now h rest (record { cells = h.cells; starts = h.starts; nodes = [] }) at fails)

pub returns : goal.returns
returns c =
    let h = heading c.in_ok-heading.heading in
    let rest = c.heading_at.new.input in
    let d = c.nodes_at.new.cert in
    let ls = c.in_ok-lefts.lefts.items in
    let after = c.nodes_at.new.input in
    let at = subst (λ (bs : List ℕ). heading_at bs ≡ Ok (h, rest)) c.new-input.ensures c.in_ok-heading.ensures.value in
    let reads = subst (λ (k : CertificateOf Val). gathered k [] (many_at (placed_at h.version (length k.cells) h.count) h.count rest) ≡ Ok ((d, ls), after)) c.new-cert.ensures c.in_ok-lefts.ensures in
    let ends = cert_ends c.args.bytes.now h rest d ls after at reads in
    subst (λ (r : Result (CertificateOf Val) Fault). Gives c.ended.result r) (sym ends) (subst (λ (l : List ℕ). Gives c.ended.result (ended d l after)) c.as_slice.ensures.value c.ended.ensures)
