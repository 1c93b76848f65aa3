-- What Done means of an assembly and of a listing.
use Rattle.std.proofs.Common.{◌≡◌, ℕ, List, ◌∷◌, ◌++◌, Some, ap, subst, ◌∙◌, arith}
use Rattle.memory_plan.proofs.ImageFits.{image_fits}
use Rattle.disasm_view.proofs.Assembled.{listing_is_source}
use Rattle.disasm_view.proofs.Sizes.{listing_size}
use Rattle.viper_io.specs.Causes.{Stock, Output, Handed, Wrote}
use Rattle.viper_top.specs.declared.status.Status.TheVariants.{Done, Input}
use Rattle.viper_top.specs.Endings.{Ending}
use Rattle.viper_top.specs.Orders.{Assemble, Disasm}
use Rattle.viper_top.specs.Contents.{Kind, Value, Image, Source}
use Rattle.viper_top.specs.Works.{Does, Reads, Walks}
use Rattle.viper_top.specs.Assemble.{assembled}
use Rattle.viper_top.specs.Disasm.{listed}
use Rattle.viper_top.specs.Commands.{Task, Assembles, Lists, Ends}
use Rattle.viper_top.specs.Promises.{Given, Answered, IsPlaced}
use Rattle.viper_top.specs.Headlines.{handed_as, IsOnlyRead, Assembled, Listed}
use Rattle.viper_top.proofs.Apart.{took_one, does_only}

-- the one content of a command, and how the command then ends
record OneRead (kind : Kind) (name : List ℕ) (task : Value kind → Task) (s0 s1 : Stock) (e : Ending) : Type 0 where
  value : Value kind
  read : IsOnlyRead kind name s0 s1 value
  ends : Ends (task value) e

one_read : (kind : Kind) (name : List ℕ) (task : Value kind → Task) (s0 s1 : Stock) (given : List Handed) (e : Ending) → Given s0 s1 given → (e.status ≡ Input → ⊥) → Walks Ends (Reads kind name (λ v. Does (task v))) given e
    → OneRead kind name task s0 s1 e
one_read kind name task s0 s1 given e g fine walks =
    let i = took_one s0 s1 kind name (λ v. Does (task v)) given e g.each fine walks in
    let d = does_only (task i.value) i.others e i.goes_on in
    record {
      value = i.value;
      read = record {
        bytes = i.bytes;
        handed = g.appended ∙ ap (λ hs. s0.handed ++ hs) (i.is ∙ ap (λ hs. handed_as kind name i.bytes ∷ hs) d.0);
        told = i.told;
        is = i.spells;
      };
      ends = d.1;
    }

done_is_not_input : Done ≡ Input → ⊥
done_is_not_input e = cc

pub made_image : (source image : List ℕ) (s0 s1 : Stock) (out0 out1 : Output) → Answered (Assemble source image) s0 s1 Done out0 out1 → Assembled source image s0 s1 out0 out1
made_image source image s0 s1 out0 out1 a =
    let r = one_read Source source Assembles s0 s1 a.given a.ending a.is_given (λ other. done_is_not_input (a.status ∙ other)) a.walks in
    let is : a.ending ≡ assembled r.value = r.ends in
    record {
      words = r.value;
      read = r.read;
      placed = subst (λ (e : Ending). IsPlaced (Some image) e.bytes s1) is a.placed;
      put = subst (λ (e : Ending). Wrote out0.text e.text out1.text) is a.put;
    }

pub listed_image : (image : List ℕ) (s0 s1 : Stock) (out0 out1 : Output) → Answered (Disasm image) s0 s1 Done out0 out1 → Listed image s0 s1 out0 out1
listed_image image s0 s1 out0 out1 a =
    let r = one_read Image image Lists s0 s1 a.given a.ending a.is_given (λ other. done_is_not_input (a.status ∙ other)) a.walks in
    let is : a.ending ≡ listed r.value = r.ends in
    let image_is = image_fits r.read.bytes r.value r.read.is in
    record {
      words = r.value;
      read = r.read;
      put = subst (λ (e : Ending). Wrote out0.text e.text out1.text) is a.put;
      assembles = listing_is_source r.value image_is;
      short = let size = (listing_size r.value image_is).1 in omega (arith, size);
    }
