-- Reading all nodes, as a loop does.
use Rattle.std.proofs.Common.{◌≡◌, ℕ, suc, ◌-◌, ◌+◌, ◌≤◌, ◌<◌, List, [], ◌∷◌, ◌++◌, length, Result, Ok, Err, refl, sym, ap, ◌∙◌, append_assoc, arith}
use Rattle.std.proofs.lemmas.List.{append-nil, length-append}
use Rattle.val_dom.specs.declared.val.Val.{Val}
use Rattle.cert_format.specs.declared.fault.Fault.{Fault}
use Rattle.cert_format.specs.declared.fault.ReadError.{ReadError}
use Rattle.cert_format.specs.declared.fault.ReadError.TheVariants as errors
use Rattle.cert_format.specs.Certificates.{NodeOf, CertificateOf, with_node}
use Rattle.cert_format.specs.Reading.{◌>>=◌, Fails, many_at}
use Rattle.cert_format.specs.ReadNodes.{Placed}
use Rattle.cert_format.specs.ReadCerts.{gathered, nodes_of, lefts_of}

regroup : (c : CertificateOf Val) (ls : List ℕ) (p : Placed) (read : Result (List Placed × List ℕ) Fault) → gathered c ls (read >>= λ x. Ok (p ∷ x.0, x.1)) ≡ gathered (with_node c p.node) (ls ++ p.left ∷ []) read
regroup c ls p (Ok x) =
    ap (λ (ns : List (NodeOf Val)). Ok ((record c { nodes = ns }, ls ++ p.left ∷ lefts_of x.0), x.1)) (sym (append_assoc c.nodes (p.node ∷ []) (nodes_of x.0)))
    ∙ ap (λ (qs : List ℕ). Ok ((record c { nodes = (c.nodes ++ p.node ∷ []) ++ nodes_of x.0 }, qs), x.1)) (sym (append_assoc ls (p.left ∷ []) (lefts_of x.0)))
regroup c ls p (Err e) = refl

pub nodes_go_on : (one : List ℕ → Result (Placed × List ℕ) Fault) (c : CertificateOf Val) (ls : List ℕ) (count i : ℕ) (bytes : List ℕ) (p : Placed) (after : List ℕ) (total : Result ((CertificateOf Val × List ℕ) × List ℕ) Fault) → i < count → one bytes ≡ Ok (p, after)
    → gathered c ls (many_at one (count - i) bytes) ≡ total → gathered (with_node c p.node) (ls ++ p.left ∷ []) (many_at one (count - (i + 1)) after) ≡ total
unfolding many_at
nodes_go_on one c ls count i bytes p after total lt h so_far =
    let k : count - i ≡ suc (count - (i + 1)) = omega arith in
    let step : gathered c ls (many_at one (count - i) bytes) ≡ gathered (with_node c p.node) (ls ++ p.left ∷ []) (many_at one (count - (i + 1)) after) = rw (k, h) (regroup c ls p (many_at one (count - (i + 1)) after)) in
    sym step ∙ so_far

pub nodes_end : (one : List ℕ → Result (Placed × List ℕ) Fault) (e : ReadError) (c : CertificateOf Val) (ls : List ℕ) (count i : ℕ) (bytes : List ℕ) (total : Result ((CertificateOf Val × List ℕ) × List ℕ) Fault) → i < count → Fails e (one bytes)
    → gathered c ls (many_at one (count - i) bytes) ≡ total → Fails e total
unfolding many_at
nodes_end one errors.Memory c ls count i bytes total lt h so_far = tt
nodes_end one (errors.At f) c ls count i bytes total lt h so_far =
    let k : count - i ≡ suc (count - (i + 1)) = omega arith in
    let step : gathered c ls (many_at one (count - i) bytes) ≡ Err f = rw (k, h) refl in
    sym so_far ∙ step

pub nodes_done : (one : List ℕ → Result (Placed × List ℕ) Fault) (c : CertificateOf Val) (ls : List ℕ) (count i : ℕ) (bytes : List ℕ) (total : Result ((CertificateOf Val × List ℕ) × List ℕ) Fault) → count ≤ i → gathered c ls (many_at one (count - i) bytes) ≡ total → total ≡ Ok ((c, ls), bytes)
unfolding many_at
nodes_done one c ls count i bytes total le so_far =
    let k : count - i ≡ 0 = omega arith in
    let step : gathered c ls (many_at one (count - i) bytes) ≡ Ok ((c, ls), bytes) = rw k (ap (λ (ns : List (NodeOf Val)). Ok ((record c { nodes = ns }, ls ++ []), bytes)) (append-nil c.nodes) ∙ ap (λ (qs : List ℕ). Ok ((c, qs), bytes)) (append-nil ls)) in
    sym so_far ∙ step

pub one_longer : {A : Type 0} (xs : List A) (x : A) → length (xs ++ x ∷ []) ≡ length xs + 1
one_longer xs x = omega (arith, length-append xs (x ∷ []))
