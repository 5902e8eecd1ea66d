-- Of a page whose text is whole no fault is reported.
use Rattle.std.proofs.Common.{◌≡◌, ◌∙◌, ℕ, List, ◌∷◌, ◌++◌, take, drop, subst, ap, append_assoc, arith}
use Rattle.std.proofs.lemmas.List.{take-append-drop}
use Rattle.mari_io.specs.Outside.{most_given}
use Rattle.mari_publish.specs.declared.fault.TextFault.{TextFault}
use Rattle.mari_stream.specs.Coming.{LinesKeep}
use Rattle.mari_stream.specs.Forms.{Form, IsLineFault, IsTextFault, IsWhole}
use Rattle.mari_stream.specs.Streams.{IsReportedFault}
use Rattle.mari_stream.specs.Streams.IsReportedFault.{OfPage, OfGiven}
use Rattle.mari_stream.proofs.Stops.{whole-fault}

longer : (before here after more : List ℕ) → (before ++ (here ++ 10 ∷ after)) ++ more ≡ before ++ (here ++ 10 ∷ (after ++ more))
longer before here after more = append_assoc before (here ++ 10 ∷ after) more ∙ ap (λ (t : List ℕ). before ++ t) (append_assoc here (10 ∷ after) more)

-- a fault of a line stays where more is after it
line-stays : {K L P : Type 0} (form : Form K L P) (text more : List ℕ) (f : TextFault) → IsLineFault form text f → IsTextFault form (text ++ more) f
line-stays form text more f h = grind (arith, longer)

pub no-reported : {K L P : Type 0} (form : Form K L P) → LinesKeep form → (page : List ℕ) (parts : List P) (f : TextFault) → IsWhole form page parts → IsReportedFault form page f → ⊥
no-reported form keep page parts f whole (OfPage short h) = whole-fault form keep page parts f whole h
no-reported form keep page parts f whole (OfGiven long h) =
    let page_is : take most_given page ++ drop most_given page ≡ page = take-append-drop most_given page in
    whole-fault form keep page parts f whole
    (subst (λ (t : List ℕ). IsTextFault form t f) page_is (line-stays form (take most_given page) (drop most_given page) f h))
