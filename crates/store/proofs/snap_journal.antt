pub mod ImageLemmas
pub mod AppendLemmas
pub mod GateLemmas
pub mod SurveyLemmas
pub mod HeadLemmas
pub mod CountLemmas
