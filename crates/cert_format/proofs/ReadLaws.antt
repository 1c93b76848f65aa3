-- A certificate is read part after part.
use Rattle.std.proofs.Common.{◌≡◌, ℕ, zero, suc, ◌+◌, ◌<◌, ◌≤◌, cond, List, [], ◌∷◌, ◌++◌, length, Some, Result, Ok, Err, refl, sym, ap, subst, ◌∙◌, nat_lt}
use Rattle.std.specs.Int.{w32}
use Rattle.std.proofs.lemmas.Bool.{ltb-true}
use Rattle.val_dom.specs.declared.val.Val.{Val}
use Rattle.flag_relation.specs.declared.fact.TheConstants.{MOST_CELLS}
use Rattle.cert_format.specs.declared.fault.Fault.{Fault}
use Rattle.cert_format.specs.declared.fault.ReadError.{ReadError}
use Rattle.cert_format.specs.declared.fault.ReadError.TheVariants as errors
use Rattle.cert_format.specs.declared.version.Version.{Version}
use Rattle.cert_format.specs.Certificates.{CertificateOf}
use Rattle.cert_format.specs.Spelling.{IsCert}
use Rattle.cert_format.specs.Reading.{◌>>=◌, Fails, number_at, many_at}
use Rattle.cert_format.specs.Fields.{count_at, below_at, cell_at, cells_at}
use Rattle.cert_format.specs.ReadNodes.{Placed, placed_at}
use Rattle.cert_format.specs.ReadCerts.{tracked_at, Heading, heading_at, nodes_of, lefts_of, gathered, certificate_of, ended, cert_of, first_fault, fault_of, at_offset}
use Rattle.cert_format.specs.evidence.Numbers.{bind_ok, passed, ok_is, err_not_ok}
use Rattle.cert_format.proofs.FieldLimits.{count_within}
use Rattle.cert_format.proofs.CertLaws.{cert_again}

-- ---- limits of what stands before the nodes

pub below_within : (limit : ℕ) (bytes : List ℕ) (x : ℕ × List ℕ) → below_at limit bytes ≡ Ok x → x.0 < limit
unfolding below_at
below_within limit bytes x e =
    let n = bind_ok (number_at w32 bytes) (λ n. cond (nat_lt n.0 limit) (Ok n) (Err _)) x e in
    let g = passed (nat_lt n.0.0 limit) (Ok n.0) _ x n.2 in
    subst (λ (y : ℕ × List ℕ). y.0 < limit) (ok_is n.0 x g.1) (ltb-true n.0.0 limit g.0)

cells_length : (from n : ℕ) (bytes : List ℕ) (x : List ℕ × List ℕ) → cells_at from n bytes ≡ Ok x → length x.0 ≡ n
unfolding cells_at
cells_length from zero bytes x e = subst (λ (y : List ℕ × List ℕ). length y.0 ≡ 0) (ok_is ([], bytes) x e) refl
cells_length from (suc n) bytes x e =
    let first = bind_ok (cell_at from bytes) (λ (a : ℕ × List ℕ). cells_at (a.0 + 1) n a.1 >>= λ b. Ok (a.0 ∷ b.0, b.1)) x e in
    let others = bind_ok (cells_at (first.0.0 + 1) n first.0.1) (λ (b : List ℕ × List ℕ). Ok (first.0.0 ∷ b.0, b.1)) x first.2 in
    subst (λ (y : List ℕ × List ℕ). length y.0 ≡ suc n) (ok_is (first.0.0 ∷ others.0.0, others.0.1) x others.2) (ap suc (cells_length (first.0.0 + 1) n first.0.1 others.0 others.1))

pub tracked_within : (bytes : List ℕ) (x : List ℕ × List ℕ) → tracked_at bytes ≡ Ok x → length x.0 ≤ MOST_CELLS
unfolding tracked_at
tracked_within bytes x e =
    let n = bind_ok (count_at MOST_CELLS bytes) (λ n. cells_at 0 n.0 n.1) x e in
    subst (λ (k : ℕ). k ≤ MOST_CELLS) (sym (cells_length 0 n.0.0 n.0.1 x n.2)) (count_within MOST_CELLS bytes n.0 n.1)

-- ---- part after part

pub err_is : {A : Type 0} (f g : Fault) → ◌≡◌ {A = Result A Fault} (Err f) (Err g) → f ≡ g
err_is f g e = cc

pub gathered_is : (c : CertificateOf Val) (read : Result (List Placed × List ℕ) Fault) (d : CertificateOf Val) (ls rest : List ℕ) → gathered c [] read ≡ Ok ((d, ls), rest) → (ps : List Placed) × (read ≡ Ok (ps, rest)) × (record c { nodes = c.nodes ++ nodes_of ps } ≡ d) × (lefts_of ps ≡ ls)
gathered_is c (Ok x) d ls rest e =
    let made : (CertificateOf Val × List ℕ) × List ℕ = ((record c { nodes = c.nodes ++ nodes_of x.0 }, lefts_of x.0), x.1) in
    let m = ok_is made ((d, ls), rest) e in
    (x.0, ap (λ (y : (CertificateOf Val × List ℕ) × List ℕ). Ok (x.0, y.1)) m, ap (λ (y : (CertificateOf Val × List ℕ) × List ℕ). y.0.0) m, ap (λ (y : (CertificateOf Val × List ℕ) × List ℕ). y.0.1) m)
gathered_is c (Err f) d ls rest e = err_not_ok f ((d, ls), rest) e

gathered_fails : (e : ReadError) (c : CertificateOf Val) (read : Result (List Placed × List ℕ) Fault) → Fails e (gathered c [] read) → Fails e read
gathered_fails errors.Memory c read h = tt
gathered_fails (errors.At f) c (Ok x) h = err_not_ok f ((record c { nodes = c.nodes ++ nodes_of x.0 }, lefts_of x.0), x.1) (sym h)
gathered_fails (errors.At f) c (Err g) h = ap (λ (k : Fault). Err k) (err_is g f h)

pub heading_fails : (e : ReadError) (bytes : List ℕ) → Fails e (heading_at bytes) → Fails e (cert_of bytes)
unfolding cert_of
heading_fails errors.Memory bytes h = tt
heading_fails (errors.At f) bytes h = rw h refl

pub nodes_fail : (e : ReadError) (bytes : List ℕ) (h : Heading) (rest : List ℕ) (c : CertificateOf Val) → heading_at bytes ≡ Ok (h, rest) → Fails e (gathered c [] (many_at (placed_at h.version (length h.cells) h.count) h.count rest)) → Fails e (cert_of bytes)
unfolding cert_of
nodes_fail errors.Memory bytes h rest c at e = tt
nodes_fail (errors.At f) bytes h rest c at e =
    let k : many_at (placed_at h.version (length h.cells) h.count) h.count rest ≡ Err f = gathered_fails (errors.At f) c (many_at (placed_at h.version (length h.cells) h.count) h.count rest) e in
    rw (at, k) refl

cert_is : (bytes : List ℕ) (h : Heading) (rest after : List ℕ) (ps : List Placed) → heading_at bytes ≡ Ok (h, rest) → many_at (placed_at h.version (length h.cells) h.count) h.count rest ≡ Ok (ps, after) → cert_of bytes ≡ ended (certificate_of h ps) (lefts_of ps) after
unfolding cert_of
cert_is bytes h rest after ps at e = rw (at, e) refl

pub cert_ends : (bytes : List ℕ) (h : Heading) (rest : List ℕ) (d : CertificateOf Val) (ls after : List ℕ) → heading_at bytes ≡ Ok (h, rest) → gathered (record { cells = h.cells; starts = h.starts; nodes = [] }) [] (many_at (placed_at h.version (length h.cells) h.count) h.count rest) ≡ Ok ((d, ls), after) → cert_of bytes ≡ ended d ls after
cert_ends bytes h rest d ls after at e =
    let g = gathered_is (record { cells = h.cells; starts = h.starts; nodes = [] }) (many_at (placed_at h.version (length h.cells) h.count) h.count rest) d ls after e in
    cert_is bytes h rest after g.0 at g.1 ∙ ap (λ (x : CertificateOf Val). ended x (lefts_of g.0) after) g.2 ∙ ap (λ (l : List ℕ). ended d l after) g.3

-- ---- what the outcome tells

pub fault_is : (bytes : List ℕ) (f : Fault) → cert_of bytes ≡ Err f → first_fault bytes ≡ Some (at_offset bytes f)
unfolding first_fault
fault_is bytes f e = ap (fault_of bytes) e

pub only_that : (bytes : List ℕ) (v : Version) (c d : CertificateOf Val) → IsCert v bytes c → cert_of bytes ≡ Ok d → d ≡ c
only_that bytes v c d i e = ok_is d c (sym e ∙ cert_again v bytes c i)

pub no_fault_there : {B : Type 0} (bytes : List ℕ) (v : Version) (c : CertificateOf Val) (f : Fault) → IsCert v bytes c → cert_of bytes ≡ Err f → B
no_fault_there bytes v c f i e = err_not_ok f c (sym e ∙ cert_again v bytes c i)
