-- By what the due snapshot says, and by what the law of calls says of it.
use Rattle.recovery.proofs.records.Going.{goes_with, image_good}
use Rattle.recovery.proofs.records.laws.records_go_with_stores.Goals as goal

pub returns-clause-goes : goal.returns-clause-goes
returns-clause-goes c = λ st failures kept resumed base first events cluster header start bodies made trace kept_is keeps due is.
    goes_with st failures kept resumed base first events cluster trace header start bodies kept_is keeps due made is

pub returns-clause-images : goal.returns-clause-images
returns-clause-images c = λ st failures kept resumed base first events cluster header start bodies made image trace kept_is keeps due is small fits machines either.
    image_good st failures kept resumed base first events cluster trace header start bodies kept_is keeps due made is small fits machines image either
