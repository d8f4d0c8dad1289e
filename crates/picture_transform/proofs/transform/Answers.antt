-- The buffer begins with the picture's coefficients, and these are near the exact solution.
use Rattle.std.proofs.Common.{drop}
use Rattle.bspline.specs.PictureLayout.{area}
use Rattle.bspline.specs.Transforms.{picture_coefficients}
use Rattle.bspline.proofs.Accuracy.{picture_accurate}
use Rattle.bspline.proofs.Transforms.{picture_length, picture_begins}
use Rattle.answers.specs.Answers.{described}
use Rattle.picture_transform.proofs.transform.Goals as goal

pub returns-clause-promised : goal.returns-clause-promised
returns-clause-promised c =
    let d = described c.args.shape in
    let p = c.args.pixels.now in
    let rest = drop (area d) c.args.coefficients.now in
    let same = c.in_ok-picture.ensures.cases in
    let good = rw same at c.in_ok-picture.picture.within in
    let filtered = rw same at c.filter_picture.ensures in
    rw filtered.coefficients
    (picture_begins d p (picture_coefficients d p) rest (picture_length d p) (picture_accurate d p good.wide good.high filtered.small))
